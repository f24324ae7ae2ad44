use Rattle.std.proofs.Common.{◌≡◌, take}
use Rattle.fc_check_rows.proofs.rows.Rows.copy.Given as goal

-- the rows so far
abbrev pub invariant-loop-row : goal.invariant-loop-row
invariant-loop-row l = l.copy ≡ take l.row-index l.row-items
