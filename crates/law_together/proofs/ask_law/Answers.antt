-- The law is proved in `Asked`.
use Rattle.law_together.proofs.Asked.{ask_law_holds}
use Rattle.law_together.proofs.ask_law.Goals as goal

pub returns : goal.returns
returns c = ask_law_holds
