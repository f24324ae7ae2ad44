-- Metadata may still have old slots that the store has dropped, since they were needed no more.
use Rattle.std.specs.Prelude.{◌≡◌, ℕ, None}
use Rattle.fc_base.specs.Sheet.{Sheet, slot_at}
use Rattle.fc_base.specs.SheetFits.{FitsDrop}
use Rattle.fc_base.specs.SheetStep.{dropped}

-- A command that settles nothing but such slots has no effects, and changes no metadata. So the one sheet comes from the other by
-- drops of old slots that nobody needs, and that are no mapping's.
pub data DropsTo : Sheet → Sheet → Type 0 where
  same : {s : Sheet} → DropsTo s s
  drop : {s t : Sheet} {b : ℕ} (fits : FitsDrop s.slots b) → (slot_at s.slots fits.place).mapping ≡ None →
      DropsTo (dropped b s) t → DropsTo s t
