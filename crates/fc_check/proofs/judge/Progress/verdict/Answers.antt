use Rattle.fc_check.proofs.WayLemmas.{said_right, said_wrong}
use Rattle.fc_check.proofs.judge.Progress.verdict.Goals as goal

pub returns-in-None : goal.returns-in-None
returns-in-None c = λ header bytes known trace. said_right header c.args.self.now bytes c.len.result c.in-None.is c.len.ensures known trace

pub returns-in-Some : goal.returns-in-Some
returns-in-Some c = λ header bytes known trace. said_wrong header c.args.self.now bytes c.in-Some.number c.in-Some.is known trace
