use Rattle.lane_tests.proofs.Fitting.{part_now}
use Rattle.lane_tests.proofs.room.write_block.Goals as goal

pub write-requires-clause-can : goal.write-requires-clause-can
write-requires-clause-can g c = part_now c.args.lane.now c.make_room.new.self c.args.volume c.requires.of c.make_room.ensures.same c.requires.fit
