use Rattle.std.proofs.Common.{◌<◌, arith}
use Rattle.fc_loops.proofs.LoopSteps.{begins_within}
use Rattle.fc_loops.proofs.loops.told_loop.Goals as goal

pub returns : goal.returns
returns c = λ v xs r. (let lt : v < c.args.nodes = begins_within _ _ _ _ xs c.requires r in c.loop-start.invariant.none v (omega arith) xs r)
