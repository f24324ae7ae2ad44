-- The law is proved in `Lawful`.
use Rattle.law_running.proofs.Lawful.{run_law_holds}
use Rattle.law_running.proofs.run_law.Goals as goal

pub returns : goal.returns
returns c = run_law_holds
