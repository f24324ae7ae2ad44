-- The law is proved in `Lawful`.
use Rattle.fc_shares.proofs.Lawful.{share_law_holds}
use Rattle.fc_shares.proofs.share_law.Goals as goal

pub returns : goal.returns
returns c = share_law_holds
