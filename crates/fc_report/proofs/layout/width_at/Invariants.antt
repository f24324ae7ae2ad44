-- The width that the rows before this one ask for.
use Rattle.std.proofs.Common.{◌≡◌, take}
use Rattle.fc_books.specs.Layout.{width_at}
use Rattle.fc_report.proofs.layout.width_at.Given as goal

abbrev pub invariant-loop-row : goal.invariant-loop-row
invariant-loop-row l = l.width ≡ width_at (take l.row-index l.rows) l.column
