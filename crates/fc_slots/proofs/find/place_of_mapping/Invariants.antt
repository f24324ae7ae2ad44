use Rattle.std.proofs.Common.{◌≡◌, ℕ, ◌<◌, false}
use Rattle.fc_slots.specs.Found.{is_slot_of}
use Rattle.fc_slots.proofs.find.place_of_mapping.Given as goal

-- no slot before this one passes
abbrev pub invariant-loop-place : goal.invariant-loop-place
invariant-loop-place l = (k : ℕ) → k < l.place → is_slot_of l.slots l.mapping k ≡ false
