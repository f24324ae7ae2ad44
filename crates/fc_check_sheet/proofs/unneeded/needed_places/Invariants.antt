use Rattle.fc_check_sheet.proofs.Needing.{NeededBelow}
use Rattle.fc_check_sheet.proofs.unneeded.needed_places.Given as goal

abbrev pub invariant-loop-place : goal.invariant-loop-place
invariant-loop-place l = NeededBelow l.sheet.slots l.place l.needed.items
