use Rattle.std.proofs.Common.{◌-◌, length}
use Rattle.fc_tallies.proofs.Nexts.{NoneBelow}
use Rattle.fc_tallies.proofs.next.first_needed.Given as goal

-- the slot isn't needed at a grain so far
abbrev pub invariant-loop-from : goal.invariant-loop-from
invariant-loop-from l = NoneBelow l.slots l.place l.from

abbrev pub decreases-loop-from : goal.decreases-loop-from
decreases-loop-from l = length l.held - l.from
