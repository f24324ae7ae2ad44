use Rattle.fc_check_steps.proofs.Stopping.{failed_then, failed_else}
use Rattle.fc_check_steps.proofs.outcome.has_failed.Goals as goal

pub returns-then-fails : goal.returns-then-fails
returns-then-fails c = failed_then _ _ _ _ _ c.if-fails.true c.in_ok-fails.ensures c.has_risen.ensures

pub returns-else-fails : goal.returns-else-fails
returns-else-fails c = failed_else _ _ _ _ c.if-fails.false c.in_ok-fails.ensures
