-- The law is proved in `Lawful`.
use Rattle.fc_moves.proofs.Lawful.{moves_law_holds}
use Rattle.fc_moves.proofs.moves_law.Goals as goal

pub returns : goal.returns
returns c = moves_law_holds
