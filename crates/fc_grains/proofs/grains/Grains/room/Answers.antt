use Rattle.std.proofs.Common.{Bool, map, ap, sym, ◌∙◌}
use Rattle.std.specs.List.{count_by}
use Rattle.fc_grains.specs.Parts.{grains_of}
use Rattle.fc_grains.specs.Volumes.{VolumeGrains}
use Rattle.fc_grains.proofs.Changing.{volume_is}
use Rattle.fc_grains.proofs.Contents.{used-reached}
use Rattle.fc_grains.proofs.Finding.{at_within, at_found}
use Rattle.fc_grains.proofs.Rooms.{used_in-away, used_in-rooms}
use Rattle.fc_grains.proofs.grains.Grains.room.Goals as goal

pub returns-in-Some : goal.returns-in-Some
returns-in-Some g c =
    rw (← c.self.view_is)
    (c.used.ensures
    ∙ used-reached c.index.result.now.disk.kind c.index.result.now.disk.grains c.index.result.now.disk.occupied
    ∙ sym (ap (λ (v : VolumeGrains). count_by (λ (b : Bool). b) v.reached) (volume_is _ c.self.invariant.rising _ (at_within _ _ _ c.deref.ensures.value c.in-Some.ensures.in_range) _ c.index.ensures _ (at_found _ _ _ _ c.deref.ensures.value c.in-Some.ensures.found)))
    ∙ sym (used_in-rooms (map grains_of c.self.inside.volumes.items) c.args.volume.0))

pub returns-in-None : goal.returns-in-None
returns-in-None g c = rw (← c.self.view_is, ← c.deref.ensures.value) (sym (used_in-away (map grains_of c.deref.result.now) c.args.volume.0 c.in-None.ensures.none))
