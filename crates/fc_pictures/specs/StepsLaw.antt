-- The law of steps: while a lane makes the moves of a fill or of a write, one after the other, each is safe on the chains as they
-- then are, and has the mark that entries tell; and so is the write after them.
use Rattle.std.specs.Prelude.{◌≡◌, ◌≢◌, ℕ, ◌<◌, true, false, cond, List, ◌∷◌, ◌++◌, length, map, fold}
use Rattle.fc_base.specs.Moves.{is_in_place, fill_moves, write_moves, after_moves}
use Rattle.fc_base.specs.Safety.{IsSafeMove, IsSafeWrite}
use Rattle.fc_base.specs.Sheet.{Slot, Sheet, slot_at, shape_of, column}
use Rattle.fc_base.specs.SheetFacts.{IsSound}
use Rattle.fc_base.specs.declared.request.Move.{Move}
use Rattle.fc_base.specs.declared.request.Side.{Side}
use Rattle.fc_base.specs.declared.request.Side.TheVariants.{Now, Under}
use Rattle.fc_rules.specs.LaneTold.{LaneOf, LaneTold, place_of, sheet_move}
use Rattle.fc_rules.specs.LaneTurn.{spot_at}
use Rattle.fc_rules.specs.Spot.{move_in}
use Rattle.fc_rules.specs.Steps.{reads_own}
use Rattle.fc_pictures.specs.Law.{LosesSide}

-- The chains of a lane after moves of these slots at a grain of this number, first move first.
abbrev pub sheet_after : LaneOf → LaneTold → ℕ → List ℕ → Sheet
sheet_after l told number ks = fold (sheet_move l) told.sheet (map (move_in (spot_at l told number)) ks)

-- What has changed after some moves at a place: what slots hold there, and nothing else.
pub record Reached (old : Sheet) (g : ℕ) (done : List ℕ) (now : Sheet) : Type 0 where
  pub sound : IsSound now
  pub births : now.births ≡ old.births
  pub shape : shape_of now.slots ≡ shape_of old.slots
  pub sizes : (k : ℕ) → length (slot_at now.slots k).held ≡ length (slot_at old.slots k).held
  pub here : column now.slots g ≡ after_moves (column old.slots g) done
  pub elsewhere : (y : ℕ) → y ≢ g → column now.slots y ≡ column old.slots y

-- A live slot whose volume has the grain.
pub record IsLiveAt (slots : List Slot) (g k : ℕ) : Type 0 where
  pub there : k < length slots
  pub is_live : (slot_at slots k).is_live ≡ true
  pub inside : g < length (slot_at slots k).held

-- A move that is told can be made.
pub record CanMove (now : Sheet) (g k : ℕ) (move : Move) : Type 0 where
  pub live : IsLiveAt now.slots g k
  pub safe : IsSafeMove (column now.slots g) k
  pub slot : move.slot.0 ≡ (slot_at now.slots k).birth
  pub volume : move.volume.0 ≡ (slot_at now.slots k).volume
  pub mark : move.in_place ≡ is_in_place (column now.slots g) k

-- A write to the volume of a live slot can be made, and loses this side if it fails.
pub record CanWrite (now : Sheet) (g t v : ℕ) (side : Side) : Type 0 where
  pub live : IsLiveAt now.slots g t
  pub safe : IsSafeWrite (column now.slots g) t
  pub volume : v ≡ (slot_at now.slots t).volume
  pub side_is : LosesSide now.slots g t side

-- So it is for moves of these slots: before each of them, and after all.
pub record MovesRun (l : LaneOf) (told : LaneTold) (number : ℕ) (moves : List ℕ) : Type 0 where
  pub reached : (before rest : List ℕ) → moves ≡ before ++ rest → Reached told.sheet (place_of l number) before (sheet_after l told number before)
  pub can_move : (before rest : List ℕ) (k : ℕ) → moves ≡ before ++ k ∷ rest → CanMove (sheet_after l told number before) (place_of l number) k (move_in (spot_at l told number) k)

pub record StepsLaw : Type 0 where
  -- a fill of a live slot that lacks the grain
  pub fill : (l : LaneOf) (told : LaneTold) (number m : ℕ) → IsSound told.sheet → IsLiveAt told.sheet.slots (place_of l number) m →
      (column told.sheet.slots (place_of l number)).held m ≡ false → MovesRun l told number (fill_moves (column told.sheet.slots (place_of l number)) m)
  -- a write to the volume of a live slot: its moves
  pub write : (l : LaneOf) (told : LaneTold) (number t : ℕ) → IsSound told.sheet → IsLiveAt told.sheet.slots (place_of l number) t →
      MovesRun l told number (write_moves (column told.sheet.slots (place_of l number)) t)
  -- and then the write itself
  pub can_write : (l : LaneOf) (told : LaneTold) (number t : ℕ) → IsSound told.sheet → IsLiveAt told.sheet.slots (place_of l number) t →
      let moves = write_moves (column told.sheet.slots (place_of l number)) t in
      CanWrite (sheet_after l told number moves) (place_of l number) t (slot_at told.sheet.slots t).volume
      (cond (reads_own (after_moves (column told.sheet.slots (place_of l number)) moves) t) Now Under)
