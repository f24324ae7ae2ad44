use Rattle.std.proofs.Common.{◌≢◌, ℕ, ◌<◌, ◌-◌, length}
use Rattle.fc_loops.specs.Rows.{row_at}
use Rattle.fc_loops.proofs.rows.has_behind.Given as goal

-- no row of the chain stands between
abbrev pub invariant-loop-behind : goal.invariant-loop-behind
invariant-loop-behind l = record {
  behind : l.place < l.behind;
  none : (j : ℕ) → l.place < j → j < l.behind → (row_at l.rows j).chain ≢ (row_at l.rows l.place).chain;
}

abbrev pub decreases-loop-behind : goal.decreases-loop-behind
decreases-loop-behind l = length l.rows - l.behind
