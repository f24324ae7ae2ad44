use Rattle.std.proofs.Common.{◌≡◌, List, ℕ, sym, ap, ◌∙◌, arith}
use Rattle.std.proofs.lemmas.Grind.{common_steps}
use Rattle.std.specs.List.{fold}
use Rattle.fc_image.specs.Records.{lost_after}
use Rattle.fc_image.proofs.Folds.{row_folds}
use Rattle.fc_image.proofs.apply.MetaLostRow.applied.Goals as goal

pub returns : goal.returns
returns c =
    let e : c.loop-record.lost ≡ fold (lost_after c.args.self.now.volume) c.args.self.now.lost c.args.records.now = grind (arith, common_steps) in
    ap (λ (h : List ℕ). record c.args.self.now { lost = h }) e ∙ sym (row_folds c.args.self.now c.args.records.now)
