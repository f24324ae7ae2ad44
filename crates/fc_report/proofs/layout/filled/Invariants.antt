-- The fields before this one.
use Rattle.std.proofs.Common.{◌≡◌, take}
use Rattle.fc_books.specs.Layout.{filled}
use Rattle.fc_report.proofs.layout.filled.Given as goal

abbrev pub invariant-loop-place : goal.invariant-loop-place
invariant-loop-place l = l.cells ≡ filled l.widths (take l.place l.row)
