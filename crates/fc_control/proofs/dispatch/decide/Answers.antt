-- A command that starts nothing asks for no loop.
use Rattle.std.proofs.Common.{rules}
use Rattle.fc_desk.specs.Control.{books_of}
use Rattle.fc_control.proofs.Dispatched.{answers_unlooped}
use Rattle.fc_control.proofs.dispatch.decide.Goals as goal

pub returns-in_ok-decision : goal.returns-in_ok-decision
returns-in_ok-decision g c =
    answers_unlooped (g.S.Sheet.meaning c.args.sheet.now).restarts c.args.control.now.grain (books_of c.args.control.now (g.S.Sheet.meaning c.args.sheet.now)) c.args.command.now
    c.in_ok-decision.decision (search rules) c.in_ok-decision.ensures
