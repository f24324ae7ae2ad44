use Rattle.fc_check.proofs.AnswerLemmas.{said_at_end}
use Rattle.fc_check.proofs.check.at_end.Goals as goal

pub returns-in-Over : goal.returns-in-Over
returns-in-Over c = λ before after bytes past said begins ends. said_at_end c.args.verdict before after bytes past said (rw c.in-Over.is at ends)
