-- The rows before this one.
use Rattle.std.proofs.Common.{◌≡◌, map, take}
use Rattle.std.specs.List.{join_with_byte}
use Rattle.fc_books.specs.Layout.{filled}
use Rattle.fc_report.proofs.layout.column_lines.Given as goal

abbrev pub invariant-loop-row : goal.invariant-loop-row
invariant-loop-row l = l.lines ≡ map (λ row. join_with_byte 32 (filled l.widths row)) (take l.row-index l.rows)
