-- The law is proved in `Determined`.
use Rattle.fc_determined.proofs.Determined.{determined_law_holds}
use Rattle.fc_determined.proofs.determined_law.Goals as goal

pub returns : goal.returns
returns c = determined_law_holds
