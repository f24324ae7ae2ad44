-- The law is proved in `DataWhole`.
use Rattle.law_noted.proofs.DataWhole.{data_law_holds}
use Rattle.law_noted.proofs.data_law.Goals as goal

pub returns : goal.returns
returns c = data_law_holds
