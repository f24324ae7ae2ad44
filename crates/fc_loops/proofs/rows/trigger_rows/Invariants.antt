use Rattle.std.proofs.Common.{◌≡◌, drop, fold}
use Rattle.fc_loops.specs.Rows.{rows_started}
use Rattle.fc_loops.proofs.rows.trigger_rows.Given as goal

-- what is left to do leads to the same rows
abbrev pub invariant-loop-pair : goal.invariant-loop-pair
invariant-loop-pair l = fold rows_started l.rows.items (drop l.pair-index l.pairs) ≡ fold rows_started l.fn.rows.items l.pairs
