use Rattle.std.proofs.Common.{◌≡◌, ◌+◌, ◌≤◌, ◌++◌, length, vec_len, vec_capacity}
use Rattle.fc_yard.specs.Homes.{homes_of, AllHome}
use Rattle.fc_yard.proofs.opening.rehouse.Given as goal

abbrev pub invariant-loop-stall : goal.invariant-loop-stall
invariant-loop-stall g l = record {
  home : AllHome l.stalls.items;
  kept : l.parts.items ++ homes_of l.stalls.items ≡ l.fn.parts.items ++ homes_of l.fn.stalls.items;
  room : vec_len l.parts + length l.stalls.items ≤ vec_capacity l.parts;
}

abbrev pub decreases-loop-stall : goal.decreases-loop-stall
decreases-loop-stall g l = length l.stalls.items
