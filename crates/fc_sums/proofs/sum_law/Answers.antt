-- The law is proved in `Lawful`.
use Rattle.fc_sums.proofs.Lawful.{sum_law_holds}
use Rattle.fc_sums.proofs.sum_law.Goals as goal

pub returns : goal.returns
returns c = sum_law_holds
