use Rattle.std.proofs.Common.{◌≡◌}
use Rattle.fc_base.specs.Counts.{is_unneeded, names_below}
use Rattle.fc_check_sheet.proofs.unneeded.unneeded_slots.Given as goal

abbrev pub invariant-loop-place : goal.invariant-loop-place
invariant-loop-place l = l.names ≡ names_below l.sheet.slots (is_unneeded l.sheet.slots) l.place
