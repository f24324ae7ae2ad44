use Rattle.std.proofs.Common.{arith}
use Rattle.fc_check_steps.proofs.Walking.{none_fails}
use Rattle.fc_check_steps.proofs.ends.fails_somewhere.Goals as goal

pub returns : goal.returns
returns c = none_fails _ _ _ c.loop-index.index (omega arith) c.loop-index.invariant
