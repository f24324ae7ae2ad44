use Rattle.std.proofs.Common.{◌≡◌, List, ℕ, sym, ap, ◌∙◌, rules, arith}
use Rattle.std.proofs.lemmas.Grind.{common_steps}
use Rattle.std.specs.List.{fold}
use Rattle.fc_image.specs.Records.{changed_after}
use Rattle.fc_image.proofs.Folds.{changes_folds}
use Rattle.fc_image.proofs.apply.MetaChangesRow.applied.Goals as goal

pub returns : goal.returns
returns c =
    let e : c.loop-record.changed ≡ fold (changed_after c.args.mappings.now c.args.self.now.map) c.args.self.now.changed c.args.records.now = grind (arith, common_steps) in
    let k : c.in_ok-copy.field-0 ≡ c.args.self.now.kept = search rules in
    ap (λ (h : List ℕ). record c.args.self.now { changed = h; kept = c.in_ok-copy.field-0 }) e
    ∙ ap (λ (h : List ℕ). record c.args.self.now { changed = fold (changed_after c.args.mappings.now c.args.self.now.map) c.args.self.now.changed c.args.records.now; kept = h }) k
    ∙ sym (changes_folds c.args.mappings.now c.args.self.now c.args.records.now)
