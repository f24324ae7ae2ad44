-- The law is proved in `Complete`.
use Rattle.fc_complete.proofs.Complete.{completion_law_holds}
use Rattle.fc_complete.proofs.completion_law.Goals as goal

pub returns : goal.returns
returns c = completion_law_holds
