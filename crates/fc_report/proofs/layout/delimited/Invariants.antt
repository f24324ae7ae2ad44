-- The rows before this one.
use Rattle.std.proofs.Common.{◌≡◌, map, take}
use Rattle.std.specs.List.{join_with_byte}
use Rattle.fc_report.proofs.layout.delimited.Given as goal

abbrev pub invariant-loop-row : goal.invariant-loop-row
invariant-loop-row l = l.lines ≡ map (join_with_byte l.delim) (take l.row-index l.rows)
