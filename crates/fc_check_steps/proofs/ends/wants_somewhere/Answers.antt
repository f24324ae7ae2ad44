use Rattle.std.proofs.Common.{arith}
use Rattle.fc_check_steps.proofs.Walking.{none_wants}
use Rattle.fc_check_steps.proofs.ends.wants_somewhere.Goals as goal

pub returns : goal.returns
returns c = none_wants _ _ _ c.loop-index.index (omega arith) c.loop-index.invariant
