use Rattle.fc_check_sheet.specs.Needs.{AddsMarks}
use Rattle.fc_check_sheet.proofs.Needing.{ReadsBefore}
use Rattle.fc_check_sheet.proofs.unneeded.mark_holders.Given as goal

abbrev pub invariant-loop-grain : goal.invariant-loop-grain
invariant-loop-grain l = AddsMarks (ReadsBefore l.sheet.slots l.place l.grain) l.fn.needed l.needed
