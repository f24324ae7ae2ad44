use Rattle.fc_check_steps.proofs.Walking.{wants_is}
use Rattle.fc_check_steps.proofs.ends.wants_at.Goals as goal

pub returns : goal.returns
returns c = wants_is _ _ _ _ _ _ _ _ c.requires c.index-steps-index.is c.in_ok-found.ensures c.wants_with.ensures
