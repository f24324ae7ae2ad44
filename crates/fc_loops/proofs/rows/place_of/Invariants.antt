use Rattle.std.proofs.Common.{◌≡◌, ℕ, ◌<◌, false}
use Rattle.fc_loops.specs.Rows.{is_live_row}
use Rattle.fc_loops.proofs.rows.place_of.Given as goal

-- no row before this one passes
abbrev pub invariant-loop-place : goal.invariant-loop-place
invariant-loop-place l = (k : ℕ) → k < l.place → is_live_row l.rows l.volume k ≡ false
