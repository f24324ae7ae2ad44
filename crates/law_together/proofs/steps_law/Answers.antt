-- The law is proved in `Steps`.
use Rattle.law_together.proofs.Steps.{steps_law_holds}
use Rattle.law_together.proofs.steps_law.Goals as goal

pub returns : goal.returns
returns c = steps_law_holds
