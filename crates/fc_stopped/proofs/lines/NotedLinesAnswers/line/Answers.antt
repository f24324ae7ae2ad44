-- Memory was wanted to read the line; or it is answered, or a part of it is.
use Rattle.std.proofs.Common.{Ok, Err, ap, ◌∙◌}
use Rattle.fc_run.proofs.GrowingLemmas.{GrowsTo-same}
use Rattle.fc_stopped.proofs.Answering.{line_adds, line_answered, line_halted, line_starved}
use Rattle.fc_stopped.specs.declared.lines.NotedLines.{NotedLines}
use Rattle.fc_stopped.proofs.lines.NotedLinesAnswers.line.Goals as goal

pub answer-requires-clause-begins : goal.answer-requires-clause-begins
answer-requires-clause-begins g c =
    let a = c.requires.stands.2 in
    record { live = a.live; w = a.last; least = a.least; at = a.at; room = c.requires.room }

pub returns-in-Err-clause-answered : goal.returns-in-Err-clause-answered
returns-in-Err-clause-answered g c = λ start lines a.
    line_starved g.M.MetaDisk.seen g.M.MetaDisk.may_leave g.M.MetaDisk.fault_count g.M.MetaDisk.calls start c.args.self.now.noted c.args.self.now.stop lines c.args.line.now c.args.history.now a c.requires.room

pub returns-in-Err-clause-grows : goal.returns-in-Err-clause-grows
returns-in-Err-clause-grows g c = GrowsTo-same c.args.history.now

pub returns-in-Ok-answer-clause-answered : goal.returns-in-Ok-answer-clause-answered
returns-in-Ok-answer-clause-answered g c = λ start lines a.
    line_answered g.M.MetaDisk.seen g.M.MetaDisk.may_leave g.M.MetaDisk.fault_count g.M.MetaDisk.calls start c.args.self.now.noted c.answer.new.self.noted c.args.self.now.stop lines c.args.line.now
    c.args.history.now c.answer.new.history a c.in-Ok-answer.ensures.lanes c.answer.new.self.stop
    (ap (λ (l : NotedLines g.row.D.Denot g.row.M.Denot). l.stop) c.in-Ok-answer.ensures.others ∙ a.on)
    (c.in-Ok-answer.ensures.answered c.args.line.now a.last a.least c.in-Ok.ensures a.at) c.in-Ok-answer.ensures.counted

pub returns-in-Ok-answer-clause-named : goal.returns-in-Ok-answer-clause-named
returns-in-Ok-answer-clause-named g c =
    let a = c.requires.stands.2 in
    (line_adds a (Ok c.in-Ok-answer.field-0) c.answer.new.self.noted c.args.line.now c.answer.new.history (c.in-Ok-answer.ensures.answered c.args.line.now a.last a.least c.in-Ok.ensures a.at)).0

pub returns-in-Ok-answer-clause-grows : goal.returns-in-Ok-answer-clause-grows
returns-in-Ok-answer-clause-grows g c =
    let a = c.requires.stands.2 in
    (line_adds a (Ok c.in-Ok-answer.field-0) c.answer.new.self.noted c.args.line.now c.answer.new.history (c.in-Ok-answer.ensures.answered c.args.line.now a.last a.least c.in-Ok.ensures a.at)).1

pub returns-in-Err-answer-clause-answered : goal.returns-in-Err-answer-clause-answered
returns-in-Err-answer-clause-answered g c = λ start lines a.
    rw c.told.ensures
    (line_halted g.M.MetaDisk.seen g.M.MetaDisk.may_leave g.M.MetaDisk.fault_count g.M.MetaDisk.calls start c.args.self.now.noted c.answer.new.self.noted c.args.self.now.stop lines c.args.line.now
    c.args.history.now c.answer.new.history a c.in-Err-answer.ensures.lanes c.in-Err-answer.stop
    (c.in-Err-answer.ensures.answered c.args.line.now a.last a.least c.in-Ok.ensures a.at) c.in-Err-answer.ensures.counted)

pub returns-in-Err-answer-clause-named : goal.returns-in-Err-answer-clause-named
returns-in-Err-answer-clause-named g c =
    let a = c.requires.stands.2 in
    (line_adds a (Err c.in-Err-answer.stop) c.answer.new.self.noted c.args.line.now c.answer.new.history (c.in-Err-answer.ensures.answered c.args.line.now a.last a.least c.in-Ok.ensures a.at)).0

pub returns-in-Err-answer-clause-grows : goal.returns-in-Err-answer-clause-grows
returns-in-Err-answer-clause-grows g c =
    let a = c.requires.stands.2 in
    (line_adds a (Err c.in-Err-answer.stop) c.answer.new.self.noted c.args.line.now c.answer.new.history (c.in-Err-answer.ensures.answered c.args.line.now a.last a.least c.in-Ok.ensures a.at)).1
