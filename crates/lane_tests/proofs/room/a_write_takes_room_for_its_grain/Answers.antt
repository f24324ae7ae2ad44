use Rattle.lane_tests.proofs.ThinFits.{thin_part}
use Rattle.lane_tests.specs.Thin.{told_thin}
use Rattle.lane_tests.proofs.room.a_write_takes_room_for_its_grain.Goals as goal

pub write_block-entry-requires-clause-fit : goal.write_block-entry-requires-clause-fit
write_block-entry-requires-clause-fit g c =
    let s = c.lane_over-lane.ensures.stands in
    (told_thin s.0, s.1, thin_part s.0)
