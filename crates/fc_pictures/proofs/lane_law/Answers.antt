-- The law is proved in `Agreeing`.
use Rattle.fc_pictures.proofs.Agreeing.{lane_law_holds}
use Rattle.fc_pictures.proofs.lane_law.Goals as goal

pub returns : goal.returns
returns c = lane_law_holds
