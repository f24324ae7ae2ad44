use Rattle.std.proofs.Common.{ap, ◌∙◌}
use Rattle.fc_places.specs.Indexing.{Index}
use Rattle.fc_places.proofs.Sorting.{born_at}
use Rattle.fc_places.proofs.index.Index.born.Goals as goal

pub returns-clause-value : goal.returns-clause-value
returns-clause-value c =
    born_at c.args.slots.now c.args.self.now.entries c.deref.result.now c.args.birth c.find.result (c.deref.ensures.value ∙ ap (λ (x : Index). x.entries) c.self.view_is) c.requires.index c.requires.apart c.find.ensures
