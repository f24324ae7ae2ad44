use Rattle.std.proofs.Common.{Result, ap, ◌∙◌, subst}
use Rattle.fc_base.specs.declared.command.Line.{Line}
use Rattle.fc_base.specs.declared.command.Scope.TheVariants.{Free}
use Rattle.fc_base.specs.declared.fault.WordFault.{WordFault}
use Rattle.fc_words.specs.Answers.{Answers}
use Rattle.fc_words.specs.Lines.{line_of}
use Rattle.fc_words.proofs.LinesBack.{reads_back}
use Rattle.fc_words.proofs.line.read_line.Goals as goal

pub returns-clause-reads_back : goal.returns-clause-reads_back
returns-clause-reads_back c command good text free =
    let Read : Result Line WordFault → Type 0 = λ line. Answers c.read_in.result line in
    subst Read (ap (λ scope. line_of scope c.args.line.now) free ∙ (ap (line_of Free) text ∙ reads_back command good)) c.read_in.ensures
