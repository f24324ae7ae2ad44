use Rattle.std.proofs.Common.{◌<◌, length, map}
use Rattle.fc_grains.specs.Parts.{grains_of}
use Rattle.fc_grains.specs.Volumes.{volume_of}
use Rattle.fc_grains.proofs.Calling.{kept_lost, state_lost}
use Rattle.fc_grains.proofs.Changing.{mark_there}
use Rattle.fc_grains.proofs.Finding.{at_within, at_found, is_there_by}
use Rattle.fc_grains.proofs.grains.Grains.lose.Goals as goal

pub place_of-at-requires-clause-there : goal.place_of-at-requires-clause-there
place_of-at-requires-clause-there g c =
    let there : c.args.place < length (volume_of (map grains_of c.self.inside.volumes.items) c.args.volume.0).contents = rw (← c.self.view_is) at c.requires in
    rw c.deref.ensures.value (is_there_by (map grains_of c.self.inside.volumes.items) c.args.volume.0 c.args.place there)

pub lose-requires : goal.lose-requires
lose-requires g c =
    let there : c.args.place < length (volume_of (map grains_of c.self.inside.volumes.items) c.args.volume.0).contents = rw (← c.self.view_is) at c.requires in
    mark_there _ c.self.invariant.rising _ (at_within _ _ _ c.deref.ensures.value c.place_of-at.ensures.in_range) _ c.index_mut.ensures.value _ (at_found _ _ _ _ c.deref.ensures.value c.place_of-at.ensures.found) c.args.place there

pub invariant_of-self : goal.invariant_of-self
invariant_of-self g c = kept_lost _ _ _ _ _ _ _ _ c.self.invariant _ (at_within _ _ _ c.deref.ensures.value c.place_of-at.ensures.in_range) _ c.index_mut.ensures.value _ (at_found _ _ _ _ c.deref.ensures.value c.place_of-at.ensures.found) _ c.args.place c.lose.ensures

pub returns : goal.returns
returns g c = rw (← c.self.view_is) (state_lost _ _ _ _ _ _ _ _ c.self.invariant _ (at_within _ _ _ c.deref.ensures.value c.place_of-at.ensures.in_range) _ c.index_mut.ensures.value _ (at_found _ _ _ _ c.deref.ensures.value c.place_of-at.ensures.found) _ c.args.place c.lose.ensures)
