-- The law is proved in `Leaving`.
use Rattle.law_stands.proofs.Leaving.{commands_law_holds}
use Rattle.law_stands.proofs.commands_law.Goals as goal

pub returns : goal.returns
returns c = commands_law_holds
