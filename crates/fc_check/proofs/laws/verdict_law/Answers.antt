-- The law is proved in `LawLemmas`.
use Rattle.fc_check.proofs.LawLemmas.{verdict_law_holds}
use Rattle.fc_check.proofs.laws.verdict_law.Goals as goal

pub returns : goal.returns
returns c = verdict_law_holds
