-- The law is proved in `Holding` and `Stepping`.
use Rattle.fc_held.proofs.Holding.{all_agree}
use Rattle.fc_held.proofs.Stepping.{steps}
use Rattle.fc_held.proofs.law.held_law.Goals as goal

pub returns : goal.returns
returns c = record { agree = all_agree; steps = steps }
