-- The law is proved in `Naming`.
use Rattle.law_stands.proofs.Naming.{names_law_holds}
use Rattle.law_stands.proofs.names_law.Goals as goal

pub returns : goal.returns
returns c = names_law_holds
