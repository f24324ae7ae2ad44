use Rattle.std.proofs.Common.{arith}
use Rattle.fc_check_lane.proofs.Within.{no_grain}
use Rattle.fc_check_lane.proofs.known.Known.grain_of.Goals as goal

pub returns : goal.returns
returns c = no_grain c.args.self.now c.args.volume c.args.number _ c.loop-size.size-index c.volume_sizes-size-items.ensures (omega arith) c.loop-size.invariant
