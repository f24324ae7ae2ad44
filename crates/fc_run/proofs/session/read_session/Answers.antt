-- The last line was answered, or stopped at, behind what was put.
use Rattle.fc_run.proofs.GrowingLemmas.{IsPut-added}
use Rattle.fc_run.proofs.session.read_session.Goals as goal

pub returns-in-Ok-answer_last-clause-put : goal.returns-in-Ok-answer_last-clause-put
returns-in-Ok-answer_last-clause-put g c =
    IsPut-added (g.K.Sink.meaning c.args.sink.now) (g.K.Sink.meaning c.read_pieces-ending.new.sink) c.args.output.now.form
    c.read_pieces-ending.new.output.put c.read_pieces-ending.new.history c.answer_last.new.history c.in-End.ensures.named c.in-End.ensures.within
    c.answer_last.ensures.grows c.in-End.ensures.put.got

pub returns-then-is_open-clause-put : goal.returns-then-is_open-clause-put
returns-then-is_open-clause-put g c =
    IsPut-added (g.K.Sink.meaning c.args.sink.now) (g.K.Sink.meaning c.read_pieces-ending.new.sink) c.args.output.now.form
    c.read_pieces-ending.new.output.put c.read_pieces-ending.new.history c.answer_last.new.history c.in-End.ensures.named c.in-End.ensures.within
    c.answer_last.ensures.grows c.in-End.ensures.put.got

pub returns-in-End-clause-put : goal.returns-in-End-clause-put
returns-in-End-clause-put g c =
    IsPut-added (g.K.Sink.meaning c.args.sink.now) (g.K.Sink.meaning c.read_pieces-ending.new.sink) c.args.output.now.form
    c.read_pieces-ending.new.output.put c.read_pieces-ending.new.history c.answer_last.new.history c.in-End.ensures.named c.in-End.ensures.within
    c.answer_last.ensures.grows c.in-End.ensures.put.got
