use Rattle.std.proofs.Common.{ap}
use Rattle.fc_places.specs.Indexing.{Index}
use Rattle.fc_places.proofs.Sorting.{volume_found}
use Rattle.fc_places.proofs.index.Index.of_volume.Goals as goal

pub returns : goal.returns
returns c =
    volume_found c.self.inside.entries.items c.args.self.now.entries c.deref.result.now c.deref-2.result.now c.deref-3.result.now c.args.volume c.from-key.result c.first_from-from.result c.first_from-to.result
    (ap (λ (x : Index). x.entries) c.self.view_is) c.deref.ensures.value c.deref-2.ensures.value c.deref-3.ensures.value c.from-key.ensures c.first_from-from.ensures c.first_from-to.ensures
