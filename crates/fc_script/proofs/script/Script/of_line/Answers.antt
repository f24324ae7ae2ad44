-- A line begins as it was read.
use Rattle.std.proofs.Common.{[], Ok, subst, sym}
use Rattle.fc_base.specs.declared.command.Line.{Line}
use Rattle.fc_legal.specs.Agenda.{Session, line_read}
use Rattle.fc_script.specs.Passage.{GoesOn}
use Rattle.fc_script.proofs.Begun.{BeginsBy, blank_begun, command_begun, unknown_begun}
use Rattle.fc_script.proofs.script.Script.of_line.Goals as goal

pub returns-in-Blank-clause-agenda : goal.returns-in-Blank-clause-agenda
returns-in-Blank-clause-agenda g c = λ w stands.
    subst (λ (l : Line). GoesOn c.args.store.now.control.grain w (line_read c.args.store.now.control.grain w (Ok l) []) (Session [])) (sym c.in-Blank.is) (blank_begun c.args.store.now.control.grain w)

pub returns-in-Command-clause-agenda : goal.returns-in-Command-clause-agenda
returns-in-Command-clause-agenda g c = subst (λ (l : Line). BeginsBy c.args.store.now l c.of_command.result) (sym c.in-Command.is) (command_begun c.args.store.now c.in-Command.command c.of_command.result c.of_command.ensures.agenda)

pub returns : goal.returns
returns g c = record { agenda = λ w stands. unknown_begun c.args.store.now.control.grain w c.args.line c.in-Together.is; fits = tt }
