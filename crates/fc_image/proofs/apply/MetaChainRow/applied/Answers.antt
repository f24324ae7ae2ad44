use Rattle.std.proofs.Common.{List, map, sym, ap, ◌∙◌}
use Rattle.std.specs.List.{fold}
use Rattle.fc_image.specs.declared.image.MetaSlot.{MetaSlot}
use Rattle.fc_image.specs.Records.{slot_after}
use Rattle.fc_image.proofs.Folds.{chain_folds}
use Rattle.fc_image.proofs.apply.MetaChainRow.applied.Goals as goal

pub returns : goal.returns
returns c =
    ap (λ (h : List MetaSlot). record c.args.self.now { slots = h }) (c.in_ok-slots.ensures ∙ ap (λ slots. map (λ slot. fold slot_after slot c.args.records.now) slots) c.as_slice.ensures)
    ∙ sym (chain_folds c.args.self.now c.args.records.now)
