use Rattle.std.proofs.Common.{◌≡◌, ◌≢◌, ℕ, ◌<◌, true, false, Some}
use Rattle.fc_base.specs.Column.{holder}
use Rattle.fc_base.specs.Sheet.{slot_at, column}
use Rattle.chain_steps.proofs.taken.fits_lost.Given as goal

-- none of the live slots so far
abbrev pub invariant-loop-place : goal.invariant-loop-place
invariant-loop-place l =
    (k h : ℕ) → k < l.place → (slot_at l.plain.slots k).is_live ≡ true → holder (column l.plain.slots l.grain) k ≡ Some h → (slot_at l.plain.slots h).is_live ≡ false → (slot_at l.plain.slots h).volume ≢ l.volume.0
