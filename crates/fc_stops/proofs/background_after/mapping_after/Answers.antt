-- One more change.
use Rattle.std.proofs.Common.{option_copied}
use Rattle.fc_stops.proofs.StopParts.{after_next}
use Rattle.fc_stops.proofs.background_after.mapping_after.Goals as goal

pub loop-change-preserved : goal.loop-change-preserved
loop-change-preserved c =
    after_next c.args.changes.now c.loop-change.change-index c.change-item.result c.args.mapping.now (option_copied c.loop-change.current) (option_copied c.set_next-current.result)
    c.loop-change-test.true c.change-item.is c.loop-change.invariant c.set_next-current.ensures
