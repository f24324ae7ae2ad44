use Rattle.fc_check_sheet.proofs.Needing.{ReadersBelow}
use Rattle.fc_check_sheet.proofs.readers.readers_of.Given as goal

abbrev pub invariant-loop-place : goal.invariant-loop-place
invariant-loop-place l = ReadersBelow l.sheet.slots l.from l.place l.places
