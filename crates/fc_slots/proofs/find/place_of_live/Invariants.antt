use Rattle.std.proofs.Common.{◌≡◌, ℕ, ◌<◌, false}
use Rattle.fc_slots.specs.Found.{is_live_of}
use Rattle.fc_slots.proofs.find.place_of_live.Given as goal

-- no slot before this one passes
abbrev pub invariant-loop-place : goal.invariant-loop-place
invariant-loop-place l = (k : ℕ) → k < l.place → is_live_of l.slots l.volume k ≡ false
