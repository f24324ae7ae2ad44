use Rattle.fc_apply.proofs.Noting.{leaves_next_at}
use Rattle.fc_apply.proofs.chains.note_leavings.Goals as goal

pub loop-map-preserved : goal.loop-map-preserved
loop-map-preserved c =
    leaves_next_at c.args.cascade.now.sheet.slots c.args.changes.now c.args.maps.now c.loop-map.changes c.note_leaving.new.changes c.loop-map.map-index _ c.loop-map-test.true c.loop-map.invariant c.note_leaving.ensures
