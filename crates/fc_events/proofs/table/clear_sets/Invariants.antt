use Rattle.std.proofs.Common.{◌≡◌, replicate, false}
use Rattle.fc_events.proofs.table.clear_sets.Given as goal

-- so many sets so far
abbrev pub invariant-loop-made : goal.invariant-loop-made
invariant-loop-made l = l.sets.items ≡ replicate l._made (replicate l.grains false)
