-- They are those that are coming.
use Rattle.fc_script.proofs.Presets.{agenda_behind, behind_are_decided}
use Rattle.fc_script.proofs.script.lines_behind.Goals as goal

pub returns-in-Ok-clause-agenda : goal.returns-in-Ok-clause-agenda
returns-in-Ok-clause-agenda g c =
    agenda_behind c.args.behind c.in-Ok.field-0.behind c.args.entry.now.reply c.in-Ok.field-0.commands.items c.from.result.items c.from.ensures.0 c.in-Ok.ensures

pub returns-in-Ok-clause-fits : goal.returns-in-Ok-clause-fits
returns-in-Ok-clause-fits g c = λ grain t.
    behind_are_decided c.args.behind c.in-Ok.field-0.behind c.args.entry.now.reply c.in-Ok.field-0.commands.items c.from.result.items c.from.ensures.0 c.in-Ok.ensures
