-- What was left was put and sent on, or a part of it was put.
use Rattle.std.proofs.Common.{is_err}
use Rattle.fc_run.proofs.OutputLemmas.{left-cut, left-flushed}
use Rattle.fc_run.proofs.output.put_and_send.Goals as goal

pub returns-in-Ok-clause-written : goal.returns-in-Ok-clause-written
returns-in-Ok-clause-written g c = λ before got.
    left-flushed c.args.form c.args.put c.args.history.now before (g.K.Sink.meaning c.args.sink.now) (g.K.Sink.meaning c.put_left.new.sink)
    (g.K.Sink.meaning c.flush.new.self) (is_err c.flush.result) got c.in-Ok.ensures c.flush.ensures

pub returns-in-Err-clause-written : goal.returns-in-Err-clause-written
returns-in-Err-clause-written g c = λ before got.
    left-cut c.args.form c.args.put c.args.history.now before (g.K.Sink.meaning c.args.sink.now) (g.K.Sink.meaning c.put_left.new.sink) got c.in-Err.ensures
