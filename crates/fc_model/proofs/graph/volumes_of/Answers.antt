use Rattle.fc_model.proofs.Loops.{one_more_volume}
use Rattle.fc_model.proofs.graph.volumes_of.Goals as goal

pub loop-place-preserved : goal.loop-place-preserved
loop-place-preserved c =
    one_more_volume c.args.slots.now c.loop-place.place c.loop-place.volumes.items c.list_volume.new.volumes.items c.volume_at.result c.loop-place.invariant c.volume_at.ensures c.in_ok-list_volume.ensures
