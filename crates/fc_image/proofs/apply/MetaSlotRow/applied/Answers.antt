use Rattle.std.proofs.Common.{◌≡◌, List, ℕ, sym, ap, ◌∙◌, arith}
use Rattle.std.proofs.lemmas.Grind.{common_steps}
use Rattle.std.specs.List.{fold}
use Rattle.fc_image.specs.Records.{held_after}
use Rattle.fc_image.proofs.Folds.{slot_folds}
use Rattle.fc_image.proofs.apply.MetaSlotRow.applied.Goals as goal

pub returns : goal.returns
returns c =
    let e : c.loop-record.held ≡ fold (held_after c.args.self.now.volume c.args.self.now.live) c.args.self.now.held c.args.records.now = grind (arith, common_steps) in
    ap (λ (h : List ℕ). record c.args.self.now { held = h }) e ∙ sym (slot_folds c.args.self.now c.args.records.now)
