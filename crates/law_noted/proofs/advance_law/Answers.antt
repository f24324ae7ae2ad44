-- The law is proved in `Advancing`.
use Rattle.law_noted.proofs.Advancing.{advance_law_holds}
use Rattle.law_noted.proofs.advance_law.Goals as goal

pub returns : goal.returns
returns c = advance_law_holds
