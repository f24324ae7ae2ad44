-- The law is proved in `Lawful`.
use Rattle.fc_alike.proofs.Lawful.{follow_law_holds}
use Rattle.fc_alike.proofs.follow_law.Goals as goal

pub returns : goal.returns
returns c = follow_law_holds
