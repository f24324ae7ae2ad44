use Rattle.std.proofs.Common.{ap}
use Rattle.fc_places.specs.Indexing.{Index}
use Rattle.fc_places.proofs.Sorting.{rebuilt}
use Rattle.fc_places.proofs.index.Index.rebuild.Goals as goal

pub returns-clause-index : goal.returns-clause-index
returns-clause-index c =
    rebuilt c.args.slots.now c.self.inside.by c.args.self.now.by c.list_all.new.entries.items c.deref_mut.result.now c.sort.new.entries _ (ap (λ (x : Index). x.by) c.self.view_is) c.list_all.ensures.listed c.deref_mut.ensures.value c.deref_mut.ensures.len c.sort.ensures.same c.sort.ensures.rising
