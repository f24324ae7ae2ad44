use Rattle.fc_check_steps.proofs.Walking.{moves_more}
use Rattle.fc_check_steps.proofs.ends.moves_of.Goals as goal

pub loop-step-preserved : goal.loop-step-preserved
loop-step-preserved c = moves_more _ _ _ c.loop-step.step-index _ _ c.loop-step-test.true c.loop-step.invariant c.step-item.is c.moved.ensures c.in_ok-push_move.ensures
