use Rattle.std.proofs.Common.{◌<◌, length, map, ap, sym, ◌∙◌}
use Rattle.fc_entry.specs.Picture.{is_lost}
use Rattle.fc_grains.specs.Parts.{grains_of}
use Rattle.fc_grains.specs.Volumes.{volume_of}
use Rattle.fc_grains.proofs.Changing.{mark_there, stored_is}
use Rattle.fc_grains.proofs.Contents.{is_lost-content}
use Rattle.fc_grains.proofs.Finding.{at_within, at_found, is_there_by}
use Rattle.fc_grains.proofs.grains.Grains.is_lost.Goals as goal

pub place_of-requires-clause-there : goal.place_of-requires-clause-there
place_of-requires-clause-there g c =
    let there : c.args.place < length (volume_of (map grains_of c.self.inside.volumes.items) c.args.volume.0).contents = rw (← c.self.view_is) at c.requires in
    rw c.deref.ensures.value (is_there_by (map grains_of c.self.inside.volumes.items) c.args.volume.0 c.args.place there)

pub is_lost-requires : goal.is_lost-requires
is_lost-requires g c =
    let there : c.args.place < length (volume_of (map grains_of c.self.inside.volumes.items) c.args.volume.0).contents = rw (← c.self.view_is) at c.requires in
    mark_there _ c.self.invariant.rising _ (at_within _ _ _ c.deref.ensures.value c.place_of.ensures.in_range) _ c.index.ensures _ (at_found _ _ _ _ c.deref.ensures.value c.place_of.ensures.found) c.args.place there

pub returns : goal.returns
returns g c =
    let there : c.args.place < length (volume_of (map grains_of c.self.inside.volumes.items) c.args.volume.0).contents = rw (← c.self.view_is) at c.requires in
    rw (← c.self.view_is)
    (c.is_lost.ensures ∙ sym (ap is_lost (stored_is _ c.self.invariant.rising _ (at_within _ _ _ c.deref.ensures.value c.place_of.ensures.in_range) _ c.index.ensures _ (at_found _ _ _ _ c.deref.ensures.value c.place_of.ensures.found) c.args.place there) ∙ is_lost-content _ _))
