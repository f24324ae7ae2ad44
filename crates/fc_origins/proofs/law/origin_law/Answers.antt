-- The law is proved in `Explaining`.
use Rattle.fc_origins.proofs.Explaining.{origins_explain}
use Rattle.fc_origins.proofs.law.origin_law.Goals as goal

pub returns : goal.returns
returns c = origins_explain
