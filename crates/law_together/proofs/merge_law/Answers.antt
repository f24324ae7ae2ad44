-- The law is proved in `Drawn`.
use Rattle.law_together.proofs.Drawn.{merge_law_holds}
use Rattle.law_together.proofs.merge_law.Goals as goal

pub returns : goal.returns
returns c = merge_law_holds
