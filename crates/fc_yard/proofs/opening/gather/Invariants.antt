use Rattle.std.proofs.Common.{◌≡◌, ℕ, ◌+◌, ◌-◌, ◌<◌, ◌≤◌, ◌++◌, false, get_or, take, vec_len, vec_capacity}
use Rattle.std.specs.Slots.{slots_items, slots_filled, slots_len}
use Rattle.std.specs.Slots.Ownership.{Filled}
use Rattle.fc_yard.specs.Homes.{homes_of}
use Rattle.fc_yard.proofs.opening.gather.Given as goal

abbrev pub invariant-loop-place : goal.invariant-loop-place
invariant-loop-place g l = record {
  full : Filled (slots_filled l.closed.slots) l.place (slots_len l.closed.slots);
  empty : (k : ℕ) → k < l.place → get_or (slots_filled l.closed.slots) k false ≡ false;
  same : (slots_items l.closed.slots ≡ slots_items l.fn.closed.slots) × (slots_len l.closed.slots ≡ slots_len l.fn.closed.slots);
  kept : l.parts.items ≡ l.fn.parts.items ++ homes_of (take l.place (slots_items l.fn.closed.slots));
  room : vec_len l.parts + (slots_len l.fn.closed.slots - l.place) ≤ vec_capacity l.parts;
}
