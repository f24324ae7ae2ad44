-- The line was put and sent on, or one of both failed.
use Rattle.fc_verdict.proofs.CheckLemmas.{told_sent, told_unput, told_unsent}
use Rattle.fc_verdict.proofs.check.write_verdict.Goals as goal

pub returns-in-Ok-flush : goal.returns-in-Ok-flush
returns-in-Ok-flush g c =
    told_sent c.args.verdict c.status_said.result (g.K.Sink.meaning c.args.sink.now) (g.K.Sink.meaning c.put_verdict.new.sink)
    (g.K.Sink.meaning c.flush.new.self) c.status_said.ensures c.in-Ok.ensures c.in-Ok-flush.ensures

pub returns-in-Err-flush : goal.returns-in-Err-flush
returns-in-Err-flush g c =
    told_unsent c.args.verdict (g.K.Sink.meaning c.args.sink.now) (g.K.Sink.meaning c.put_verdict.new.sink) (g.K.Sink.meaning c.flush.new.self)
    c.in-Ok.ensures c.in-Err-flush.ensures

pub returns-in-Err : goal.returns-in-Err
returns-in-Err g c =
    told_unput c.args.verdict (g.K.Sink.meaning c.args.sink.now) (g.K.Sink.meaning c.put_verdict.new.sink) c.in-Err.ensures
