use Rattle.std.proofs.Common.{sym, ◌∙◌}
use Rattle.fc_check_sheet.proofs.Needing.{unneeded_here}
use Rattle.fc_check_sheet.proofs.unneeded.is_unneeded_at.Goals as goal

pub returns-then-not-is_live : goal.returns-then-not-is_live
returns-then-not-is_live c = unneeded_here c.args.sheet.now.slots c.args.needed.now c.args.place c.requires.needed (sym c.is_live.ensures ∙ c.if-not-is_live.true)
