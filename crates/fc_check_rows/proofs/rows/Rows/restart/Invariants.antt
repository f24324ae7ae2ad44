use Rattle.std.proofs.Common.{◌≡◌, drop}
use Rattle.fc_changed.specs.Row.{restart_in}
use Rattle.fc_check_rows.proofs.rows.Rows.restart.Given as goal

-- none of the rows so far is of the mapping
abbrev pub invariant-loop-row : goal.invariant-loop-row
invariant-loop-row l = restart_in l.map.0 (drop l.row-index l.row-items) ≡ restart_in l.map.0 l.self
