use Rattle.fc_check_steps.proofs.Stopping.{no_memory_then, no_memory_else}
use Rattle.fc_check_steps.proofs.outcome.has_no_memory.Goals as goal

pub returns-then-wants : goal.returns-then-wants
returns-then-wants c = no_memory_then _ _ _ _ _ c.if-wants.true c.in_ok-wants.ensures c.is_untorn.ensures

pub returns-else-wants : goal.returns-else-wants
returns-else-wants c = no_memory_else _ _ _ _ c.if-wants.false c.in_ok-wants.ensures
