-- The session ended as it was read and written.
use Rattle.std.proofs.Common.{ap, is_err}
use Rattle.fc_run.specs.declared.output.Output.{Output}
use Rattle.fc_run.proofs.SessionLemmas.{SessionEnds-by, SessionEnds-unbegun, SessionEnds-unwritten}
use Rattle.fc_run.proofs.session.run_session.Goals as goal

pub returns-in-WriteFault-clause-ends : goal.returns-in-WriteFault-clause-ends
returns-in-WriteFault-clause-ends g c = λ start whole.
    SessionEnds-unwritten c.new-output.result.form c.args.form c.read_session-ending.new.output.put
    (g.S.Source.meaning c.args.source.now) (g.S.Source.meaning c.read_session-ending.new.source)
    (g.K.Sink.meaning c.args.sink.now) (g.K.Sink.meaning c.begin.new.sink) (g.K.Sink.meaning c.read_session-ending.new.sink)
    (g.A.Answers.runs c.read_session-ending.new.answers start) c.read_session-ending.new.history
    (ap (λ (o : Output). o.form) c.new-output.ensures) c.in-Ok.ensures.got (c.in-WriteFault.ensures.read start whole) c.in-WriteFault.ensures.put

pub returns-in_default : goal.returns-in_default
returns-in_default g c = record {
  ends = λ start whole.
      SessionEnds-by c.ended_by.result c.read_session-ending.result (is_err c.write_rest.result)
      c.new-output.result.form c.read_session-ending.new.output.form c.args.form c.read_session-ending.new.output.put
      (g.S.Source.meaning c.args.source.now) (g.S.Source.meaning c.read_session-ending.new.source)
      (g.K.Sink.meaning c.args.sink.now) (g.K.Sink.meaning c.begin.new.sink) (g.K.Sink.meaning c.read_session-ending.new.sink) (g.K.Sink.meaning c.write_rest.new.sink)
      (g.A.Answers.runs c.read_session-ending.new.answers start) c.read_session-ending.new.history
      c.ended_by.ensures c.in_default.not-WriteFault (ap (λ (o : Output). o.form) c.new-output.ensures) c.read_session-ending.ensures.form
      c.in-Ok.ensures.got (c.read_session-ending.ensures.read start whole) c.read_session-ending.ensures.put c.write_rest.ensures;
  takes = (c.read_session-ending.ensures.read c.requires.fresh.0 c.requires.fresh.1).takes;
  named = c.read_session-ending.ensures.named;
  limit = c.read_session-ending.ensures.limit;
}

pub returns-in-Err-clause-ends : goal.returns-in-Err-clause-ends
returns-in-Err-clause-ends g c = λ start whole.
    SessionEnds-unbegun c.new-output.result.form c.args.form (g.S.Source.meaning c.args.source.now)
    (g.K.Sink.meaning c.args.sink.now) (g.K.Sink.meaning c.begin.new.sink) (g.A.Answers.runs c.args.answers.now start) c.args.history.now
    (ap (λ (o : Output). o.form) c.new-output.ensures) whole c.in-Err.ensures.cut
