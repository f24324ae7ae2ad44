-- The law is proved in `Lawful`.
use Rattle.fc_kept.proofs.Lawful.{kept_law_holds}
use Rattle.fc_kept.proofs.kept_law.Goals as goal

pub returns : goal.returns
returns c = kept_law_holds
