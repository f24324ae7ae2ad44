-- The law is proved in `Volumes`.
use Rattle.law_volumes.proofs.Volumes.{volumes_law_holds}
use Rattle.law_volumes.proofs.volumes_law.Goals as goal

pub returns : goal.returns
returns c = volumes_law_holds
