-- The law is proved in `Actors`.
use Rattle.law_blocks.proofs.Actors.{blocks_law_holds}
use Rattle.law_blocks.proofs.blocks_law.Goals as goal

pub returns : goal.returns
returns c = blocks_law_holds
