-- The law is proved in `OutcomeLemmas`.
use Rattle.law_outcome.proofs.OutcomeLemmas.{outcome_law_holds}
use Rattle.law_outcome.proofs.outcome.outcome_law.Goals as goal

pub returns : goal.returns
returns c = outcome_law_holds
