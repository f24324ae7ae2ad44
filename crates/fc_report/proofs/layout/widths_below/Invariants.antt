-- The columns before this one.
use Rattle.std.proofs.Common.{◌≡◌, map}
use Rattle.std.specs.List.{range_with_len}
use Rattle.fc_books.specs.Layout.{width_at}
use Rattle.fc_report.proofs.layout.widths_below.Given as goal

abbrev pub invariant-loop-column : goal.invariant-loop-column
invariant-loop-column l = l.found.items ≡ map (width_at l.rows) (range_with_len 0 l.column)
