-- The law is proved in `Block`.
use Rattle.law_together.proofs.Block.{block_law_holds}
use Rattle.law_together.proofs.block_law.Goals as goal

pub returns : goal.returns
returns c = block_law_holds
