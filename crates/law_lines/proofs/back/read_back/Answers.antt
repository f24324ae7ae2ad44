use Rattle.std.proofs.Common.{◌≡◌, Result, is_err, ap, ◌∙◌, subst}
use Rattle.fc_base.specs.CommandText.{command_text}
use Rattle.fc_base.specs.declared.command.Line.{Line}
use Rattle.fc_base.specs.declared.fault.WordFault.{WordFault}
use Rattle.fc_io.specs.Sink.{SinkState}
use Rattle.fc_words.specs.Answers.{Answers}
use Rattle.fc_words.specs.Lines.{line_of}
use Rattle.law_lines.proofs.Printed.{printed}
use Rattle.law_lines.proofs.Scopes.{lines_law_holds}
use Rattle.law_lines.proofs.back.read_back.Goals as goal

pub returns-in-Ok : goal.returns-in-Ok
returns-in-Ok c good =
    let text : c.bytes.result.now ≡ command_text c.args.command.now =
    printed c.new-sink.result c.put_command.new.sink (command_text c.args.command.now) c.bytes.result.now (is_err c.put_command.result) (ap is_err c.in-Ok.is)
    c.put_command.ensures (ap (λ (sink : SinkState). sink.held) c.new-sink.ensures) c.bytes.ensures in
    let Read : Result Line WordFault → Type 0 = λ line. Answers c.read_line.result line in
    subst Read (ap (line_of c.args.scope) text ∙ lines_law_holds.canonical c.args.scope c.args.command.now good) c.read_line.ensures.value
