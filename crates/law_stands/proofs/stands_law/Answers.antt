-- The law is proved in `Standing`.
use Rattle.law_stands.proofs.Standing.{stands_law_holds}
use Rattle.law_stands.proofs.stands_law.Goals as goal

pub returns : goal.returns
returns c = stands_law_holds
