-- The law is proved in `Running`.
use Rattle.fc_pictures.proofs.Running.{steps_law_holds}
use Rattle.fc_pictures.proofs.steps_law.Goals as goal

pub returns : goal.returns
returns c = steps_law_holds
