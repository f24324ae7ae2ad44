use Rattle.std.proofs.Common.{◌≡◌, ℕ, ◌<◌, false}
use Rattle.fc_slots.specs.Found.{is_born}
use Rattle.fc_slots.proofs.find.place_of_birth.Given as goal

-- no slot before this one passes
abbrev pub invariant-loop-place : goal.invariant-loop-place
invariant-loop-place l = (k : ℕ) → k < l.place → is_born l.slots l.birth k ≡ false
