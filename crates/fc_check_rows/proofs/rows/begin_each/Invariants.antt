use Rattle.std.proofs.Common.{◌≡◌, ◌++◌, map, take, drop}
use Rattle.fc_changed.specs.Row.{row_began}
use Rattle.fc_check_rows.proofs.rows.begin_each.Given as goal

-- the rows so far are changed, the others as they were
abbrev pub invariant-loop-row : goal.invariant-loop-row
invariant-loop-row l = l.rows ≡ map (row_began l.source l.target) (take l.row-index l.initial.rows) ++ drop l.row-index l.initial.rows
