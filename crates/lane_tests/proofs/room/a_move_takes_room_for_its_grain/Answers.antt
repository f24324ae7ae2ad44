use Rattle.lane_tests.proofs.Fitting.{can_do, has_done}
use Rattle.lane_tests.proofs.ThinFits.{copied_fits, copied_part}
use Rattle.lane_tests.specs.First.{told_after}
use Rattle.lane_tests.specs.Thin.{copied, told_thin}
use Rattle.lane_tests.proofs.room.a_move_takes_room_for_its_grain.Goals as goal

pub done-requires-clause-fit : goal.done-requires-clause-fit
done-requires-clause-fit g c =
    let s = c.lane_over-lane.ensures.stands in
    can_do c.lane_over-lane.result (told_thin s.0) c.copy-events.result copied s.1 c.copy-events.ensures (copied_fits s.0)

pub write_block-entry-requires-clause-fit : goal.write_block-entry-requires-clause-fit
write_block-entry-requires-clause-fit g c =
    let s = c.lane_over-lane.ensures.stands in (
      told_after (told_thin s.0) copied,
      has_done c.lane_over-lane.result (told_thin s.0) c.copy-events.result copied s.1 c.copy-events.ensures (copied_fits s.0) c.done.new.lane c.done.ensures.stands,
      copied_part s.0,
    )
