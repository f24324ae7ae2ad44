-- The law of sheets: what events, moves and writes keep.
use Rattle.std.specs.Prelude.{◌≡◌, ℕ, Bool, false}
use Rattle.fc_base.specs.declared.decision.LaneEvent.{LaneEvent}
use Rattle.fc_base.specs.declared.request.Side.{Side}
use Rattle.fc_base.specs.declared.request.Side.TheVariants.{Under}
use Rattle.fc_base.specs.Sheet.{Sheet, no_slots}
use Rattle.fc_base.specs.SheetStep.{sheet_step, sheet_moved, sheet_written, sheet_torn}
use Rattle.fc_base.specs.SheetFacts.{IsSound}
use Rattle.fc_base.specs.SheetFits.{FitsEvent, FitsTaken, FitsLost}

-- The facts hold with no volumes, and every event that fits, every move, write and torn write that fits keeps them.
pub record SheetLaw : Type 0 where
  pub none : IsSound no_slots
  pub event : (local : ℕ → ℕ) (s : Sheet) (e : LaneEvent) → IsSound s → FitsEvent s e → IsSound (sheet_step local s e)
  pub moved : (s : Sheet) (v g : ℕ) (in_place : Bool) → IsSound s → (in_place ≡ false → FitsTaken s.slots v g) → IsSound (sheet_moved v g in_place s)
  pub written : (s : Sheet) (v g : ℕ) → IsSound s → FitsTaken s.slots v g → IsSound (sheet_written v g s)
  pub torn : (s : Sheet) (v g : ℕ) (side : Side) → IsSound s → FitsTaken s.slots v g → (side ≡ Under → FitsLost s.slots v g) → IsSound (sheet_torn v g side s)
