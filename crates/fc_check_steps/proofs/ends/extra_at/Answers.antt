use Rattle.fc_check_steps.proofs.Walking.{end_found}
use Rattle.fc_check_steps.proofs.ends.extra_at.Goals as goal

pub returns : goal.returns
returns c = end_found _ _ _ _ _ _ _ _ c.requires c.in_ok-moved.ensures c.index-steps-index.is c.calls.ensures c.extra_after.ensures
