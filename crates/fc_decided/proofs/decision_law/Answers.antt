-- The law is proved in `Decided`.
use Rattle.fc_decided.proofs.Decided.{decision_law_holds}
use Rattle.fc_decided.proofs.decision_law.Goals as goal

pub returns : goal.returns
returns c = decision_law_holds
