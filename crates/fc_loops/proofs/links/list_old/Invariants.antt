use Rattle.std.proofs.Common.{ℕ}
use Rattle.fc_loops.specs.Joins.{HasOld, IsListed}
use Rattle.fc_loops.proofs.links.list_old.Given as goal

-- those of the first rows
abbrev pub invariant-loop-row : goal.invariant-loop-row
invariant-loop-row l = (v : ℕ) → HasOld l.rows l.row-index v → IsListed l.volumes.items v
