use Rattle.std.proofs.Common.{ℕ, ap, subst, ◌∙◌}
use Rattle.fc_places.specs.Indexing.{Index, FoundKey}
use Rattle.fc_places.proofs.Sorting.{slot_found}
use Rattle.fc_places.proofs.index.Index.slot_of.Goals as goal

pub returns-clause-value : goal.returns-clause-value
returns-clause-value c =
    slot_found c.args.slots.now c.args.self.now.entries c.deref.result.now c.args.mapping c.find.result (c.deref.ensures.value ∙ ap (λ (x : Index). x.entries) c.self.view_is) c.requires.index c.requires.mappings
    (subst (λ (z : ℕ). FoundKey c.deref.result.now z c.find.result) c.from.ensures c.find.ensures)
