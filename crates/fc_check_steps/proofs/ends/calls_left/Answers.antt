use Rattle.fc_check_steps.proofs.Walking.{calls_past}
use Rattle.fc_check_steps.proofs.ends.calls_left.Goals as goal

pub returns-then-left-own : goal.returns-then-left-own
returns-then-left-own c = calls_past _ c.loop-step.step-index _ _ _ _ c.loop-step-test.true c.step-item.is c.calls-own.ensures c.loop-step.invariant c.if-left-own.true
