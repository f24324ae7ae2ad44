use Rattle.std.proofs.Common.{◌≡◌, ◌+◌, ◌≤◌, ◌++◌, length, vec_len, vec_capacity}
use Rattle.fc_yard.specs.Homes.{at_home}
use Rattle.fc_yard.proofs.opening.house.Given as goal

abbrev pub invariant-loop-part : goal.invariant-loop-part
invariant-loop-part g l = record {
  kept : l.stalls.items ++ at_home l.parts.items ≡ l.fn.stalls.items ++ at_home l.fn.parts.items;
  room : vec_len l.stalls + length l.parts.items ≤ vec_capacity l.stalls;
}

abbrev pub decreases-loop-part : goal.decreases-loop-part
decreases-loop-part g l = length l.parts.items
