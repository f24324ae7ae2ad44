-- A line is answered as it was read.
use Rattle.std.proofs.Common.{Ok, Err, sym, ◌∙◌}
use Rattle.fc_stopped.proofs.Answering.{line_is_answered}
use Rattle.fc_stopped.proofs.Reading.{stop_fault, stop_line}
use Rattle.fc_stopped.proofs.lines.NotedLines.answer.Goals as goal

pub returns-in-Read-clause-answered : goal.returns-in-Read-clause-answered
returns-in-Read-clause-answered g c = λ bytes w least is at.
    line_is_answered g.M.MetaDisk.seen g.M.MetaDisk.may_leave g.M.MetaDisk.fault_count g.M.MetaDisk.calls (Ok c.in-Read.line) c.run_line.result c.args.self.now.noted c.run_line.new.self
    c.args.history.now c.run_line.new.history c.run_line.ensures.answered c.run_line.ensures.halted c.run_line.ensures.ran bytes w least
    (stop_line w.books bytes c.in-Read.line (sym c.in-Read.is ∙ is)) at

pub returns-in-Unread-clause-answered : goal.returns-in-Unread-clause-answered
returns-in-Unread-clause-answered g c = λ bytes w least is at.
    line_is_answered g.M.MetaDisk.seen g.M.MetaDisk.may_leave g.M.MetaDisk.fault_count g.M.MetaDisk.calls (Err c.in-Unread.fault) c.run_unread.result c.args.self.now.noted c.run_unread.new.self
    c.args.history.now c.run_unread.new.history c.run_unread.ensures.answered c.run_unread.ensures.halted c.run_unread.ensures.ran bytes w least
    (stop_fault w.books bytes c.in-Unread.fault (sym c.in-Unread.is ∙ is)) at
