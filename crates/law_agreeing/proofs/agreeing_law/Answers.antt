-- The law is proved in `Whole`.
use Rattle.law_agreeing.proofs.Whole.{agreeing_law_holds}
use Rattle.law_agreeing.proofs.agreeing_law.Goals as goal

pub returns : goal.returns
returns c = agreeing_law_holds
