use Rattle.fc_diff.proofs.Law.{restart_is}
use Rattle.fc_diff.proofs.restart_law.Goals as goal

pub returns : goal.returns
returns c = restart_is
