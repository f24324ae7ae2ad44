use Rattle.std.proofs.Common.{map}
use Rattle.lane_tests.proofs.FirstFits.{reads_now}
use Rattle.lane_tests.proofs.tests.read_first.Goals as goal

pub read-requires-clause-can : goal.read-requires-clause-can
read-requires-clause-can g c = reads_now c.lane_over-lane.result (map g.D.Mdisk.meaning c.args.disks.items) c.lane_over-lane.ensures.of c.lane_over-lane.ensures.stands
