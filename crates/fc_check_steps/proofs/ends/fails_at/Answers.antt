use Rattle.fc_check_steps.proofs.Walking.{fails_is}
use Rattle.fc_check_steps.proofs.ends.fails_at.Goals as goal

pub returns : goal.returns
returns c = fails_is _ _ _ _ _ _ _ _ c.requires c.index-steps-index.is c.in_ok-found.ensures c.fails_with.ensures
