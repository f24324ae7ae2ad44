use Rattle.fc_meta.proofs.Crash.{rests_found}
use Rattle.fc_meta.proofs.meta.Meta.recover.Goals as goal

pub returns-in-Ok-clause-answer : goal.returns-in-Ok-clause-answer
returns-in-Ok-clause-answer g c = rests_found _ _ _ _ _ (g.M.MetaDisk.seen c.args.disk) c.in-Ok.ensures.rests
