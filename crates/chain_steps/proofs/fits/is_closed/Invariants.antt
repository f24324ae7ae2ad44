use Rattle.std.proofs.Common.{◌≡◌, ℕ, ◌<◌, true, Some}
use Rattle.fc_base.specs.Column.{holder}
use Rattle.fc_base.specs.Sheet.{slot_at, column}
use Rattle.fc_base.specs.SheetFits.{IsSlotOf}
use Rattle.chain_steps.proofs.fits.is_closed.Given as goal

-- no live slot so far
abbrev pub invariant-loop-place : goal.invariant-loop-place
invariant-loop-place l =
    (g d h : ℕ) → d < l.place → (slot_at l.plain.slots d).is_live ≡ true → holder (column l.plain.slots g) d ≡ Some h → IsSlotOf l.plain.slots l.map l.others h → IsSlotOf l.plain.slots l.map l.others d
