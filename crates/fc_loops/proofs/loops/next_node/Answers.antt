use Rattle.fc_loops.proofs.LoopSteps.{least_more}
use Rattle.fc_loops.proofs.loops.next_node.Goals as goal

pub loop-link-preserved : goal.loop-link-preserved
loop-link-preserved c = least_more c.args.links.now c.args.here c.args.mark c.args.marks.now c.loop-link.link-index c.loop-link.best c.lesser-best.result c.lesser-best.ensures.fits c.lesser-best.ensures.passed c.loop-link.invariant
