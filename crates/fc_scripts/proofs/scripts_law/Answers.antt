-- The law is proved in `Fixed`.
use Rattle.fc_scripts.proofs.Fixed.{scripts_law_holds}
use Rattle.fc_scripts.proofs.scripts_law.Goals as goal

pub returns : goal.returns
returns c = scripts_law_holds
