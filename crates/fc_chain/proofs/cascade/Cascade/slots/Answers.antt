use Rattle.fc_chain.proofs.Fitting.{plannable}
use Rattle.fc_chain.proofs.cascade.Cascade.slots.Goals as goal

pub returns-clause-plannable : goal.returns-clause-plannable
returns-clause-plannable c = plannable _ _ _ _ c.self.invariant.kept c.as_slice.ensures.value

pub returns-clause-together : goal.returns-clause-together
returns-clause-together c = (plannable _ _ _ _ c.self.invariant.kept c.as_slice.ensures.value).together
