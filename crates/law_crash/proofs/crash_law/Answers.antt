-- The law is proved in `Whole`.
use Rattle.law_crash.proofs.Whole.{crash_law_holds}
use Rattle.law_crash.proofs.crash_law.Goals as goal

pub returns : goal.returns
returns c = crash_law_holds
