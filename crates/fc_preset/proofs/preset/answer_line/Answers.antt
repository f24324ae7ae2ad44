-- A line is answered as it was read.
use Rattle.std.proofs.Common.{Ok, ◌∙◌, ap}
use Rattle.fc_base.specs.declared.command.Command.{Command}
use Rattle.fc_base.specs.declared.command.Line.TheVariants.{Command as CommandLine}
use Rattle.fc_preset.proofs.preset.answer_line.Goals as goal

pub returns-in-Command-Mkpreset-clause-answered : goal.returns-in-Command-Mkpreset-clause-answered
returns-in-Command-Mkpreset-clause-answered g c = λ read bytes w is told.
    c.run_preset.ensures.answered read bytes w (is ∙ ap Ok c.in-Command-Mkpreset.is ∙ ap (λ (command : Command). Ok (CommandLine command)) c.in-Command-Mkpreset.field-0-is) told
