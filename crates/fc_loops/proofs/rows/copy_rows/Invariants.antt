use Rattle.std.proofs.Common.{◌≡◌, take}
use Rattle.fc_loops.specs.Rows.{rows_of}
use Rattle.fc_loops.proofs.rows.copy_rows.Given as goal

-- the first slots are copied
abbrev pub invariant-loop-slot : goal.invariant-loop-slot
invariant-loop-slot l = l.rows.items ≡ rows_of (take l.slot-index l.slots)
