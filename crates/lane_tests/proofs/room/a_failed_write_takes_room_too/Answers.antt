use Rattle.lane_tests.proofs.Fitting.{can_do, has_done}
use Rattle.lane_tests.proofs.ThinFits.{fails_fits, failing_part}
use Rattle.lane_tests.specs.First.{told_after}
use Rattle.lane_tests.specs.Thin.{fails, told_thin}
use Rattle.lane_tests.proofs.room.a_failed_write_takes_room_too.Goals as goal

pub done-requires-clause-fit : goal.done-requires-clause-fit
done-requires-clause-fit g c =
    let s = c.lane_over-lane.ensures.stands in
    can_do c.lane_over-lane.result (told_thin s.0) c.fault-events.result fails s.1 c.fault-events.ensures (fails_fits s.0)

pub write_block-entry-requires-clause-fit : goal.write_block-entry-requires-clause-fit
write_block-entry-requires-clause-fit g c =
    let s = c.lane_over-lane.ensures.stands in (
      told_after (told_thin s.0) fails,
      has_done c.lane_over-lane.result (told_thin s.0) c.fault-events.result fails s.1 c.fault-events.ensures (fails_fits s.0) c.done.new.lane c.done.ensures.stands,
      failing_part s.0,
    )
