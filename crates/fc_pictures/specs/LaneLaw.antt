-- The law of lanes: what the laws of pictures and of steps say of what a lane's past tells.
use Rattle.std.specs.Prelude.{◌≡◌, ℕ, ◌*◌, ◌<◌, false, IsSome, List, [], ◌∷◌, ◌++◌, map, Some}
use Rattle.fc_base.specs.Grain.{block_bytes}
use Rattle.fc_base.specs.Moves.{write_moves}
use Rattle.fc_base.specs.Sheet.{Slot, Sheet, no_slots, slot_at, column, live_place, volume_grains}
use Rattle.fc_base.specs.SheetFacts.{HasSizes, IsSound}
use Rattle.fc_base.specs.SheetFits.{FitsEvent}
use Rattle.fc_base.specs.declared.decision.LaneEvent.{LaneEvent}
use Rattle.fc_base.specs.declared.request.Torn.{Torn}
use Rattle.fc_base.specs.declared.request.WritePart.{WritePart}
use Rattle.fc_base.specs.declared.size.GrainSize.{GrainSize}
use Rattle.fc_entry.specs.Picture.{Lost, Picture, grain_of_block, byte_in_grain, written}
use Rattle.fc_rules.specs.LaneTold.{LaneOf, LaneTold, place_of, told_event, sheet_write, sheet_tear, picture_write, picture_tear}
use Rattle.fc_rules.specs.LaneTurn.{spot_at, copied_slot, cleaned_slot}
use Rattle.fc_rules.specs.Shows.{Stored, Shows}
use Rattle.fc_rules.specs.Spot.{Spot, move_in}
use Rattle.fc_rules.specs.Steps.{DiskStep, step_of_move, own_step, steps_of_write, moves_of}
use Rattle.fc_pictures.specs.Law.{StoredAfter, StoredAt, StoredMoved, now_of}
use Rattle.fc_pictures.specs.StepsLaw.{sheet_after, MovesRun, IsLiveAt}

-- The chains are sound, and with what is stored they show the picture.
pub record Agrees (sheet : Sheet) (picture : Picture) (stored : Stored) : Type 0 where
  pub sound : IsSound sheet
  pub shows : Shows sheet.slots picture stored

-- The moves of a write are all made.
abbrev pub sheet_before_write : LaneOf → LaneTold → WritePart → ℕ → Sheet
sheet_before_write l told part t =
    let number = grain_of_block l.grain part.block in
    sheet_after l told number (write_moves (column told.sheet.slots (place_of l number)) t)

-- The grain that a step leaves torn where its write failed.
abbrev pub torn_of : Spot → DiskStep → Torn
torn_of spot step = record { volume = record { 0 = step.volume }; grain = record { 0 = spot.number }; side = step.side }

-- What is written: a volume's content at the part's grain, with the part's bytes.
abbrev pub StoredWritten : LaneOf → Picture → WritePart → Stored → Stored → Type 0
StoredWritten l picture part stored after =
    let g = place_of l (grain_of_block l.grain part.block) in
    StoredAt stored part.volume.0 g (written (byte_in_grain l.grain part.block) (block_bytes * part.count) part.byte (now_of picture part.volume.0 g)) after

pub record LaneLaw : Type 0 where
  -- with no volumes, and after an event
  pub none : (stored : Stored) → Agrees no_slots [] stored
  pub event : (l : LaneOf) (told : LaneTold) (e : LaneEvent) (stored after : Stored) → Agrees told.sheet told.picture stored → FitsEvent told.sheet e → StoredAfter l stored e after →
      Agrees (told_event l told e).sheet (told_event l told e).picture after
  -- after one of the moves of a fill or of a write, and where its write failed
  pub moved : (l : LaneOf) (told : LaneTold) (number : ℕ) (moves before rest : List ℕ) (k : ℕ) (stored after : Stored) → MovesRun l told number moves → moves ≡ before ++ k ∷ rest →
      Agrees (sheet_after l told number before) told.picture stored →
      StoredMoved (sheet_after l told number before).slots stored k (place_of l number) (move_in (spot_at l told number) k).in_place after →
      Agrees (sheet_after l told number (before ++ k ∷ [])) told.picture after
  pub torn_move : (l : LaneOf) (told : LaneTold) (number : ℕ) (moves before rest : List ℕ) (k : ℕ) (stored after : Stored) → MovesRun l told number moves → moves ≡ before ++ k ∷ rest →
      (move_in (spot_at l told number) k).in_place ≡ false → Agrees (sheet_after l told number before) told.picture stored →
      StoredAt stored (slot_at told.sheet.slots k).volume (place_of l number) Lost after →
      let torn = Some (torn_of (spot_at l told number) (step_of_move (spot_at l told number) k)) in
      Agrees (sheet_tear l (sheet_after l told number before) torn) (picture_tear l told.picture torn) after
  -- after a write, once its moves are made, and where it failed
  pub written : (l : LaneOf) (told : LaneTold) (part : WritePart) (t : ℕ) (stored after : Stored) → IsSound told.sheet → live_place told.sheet.slots part.volume.0 ≡ Some t →
      IsLiveAt told.sheet.slots (place_of l (grain_of_block l.grain part.block)) t → Agrees (sheet_before_write l told part t) told.picture stored → StoredWritten l told.picture part stored after →
      Agrees (sheet_write l (sheet_before_write l told part t) (Some part)) (picture_write l told.picture (Some part)) after
  pub torn_write : (l : LaneOf) (told : LaneTold) (part : WritePart) (t : ℕ) (stored after : Stored) → IsSound told.sheet → live_place told.sheet.slots part.volume.0 ≡ Some t →
      IsLiveAt told.sheet.slots (place_of l (grain_of_block l.grain part.block)) t → Agrees (sheet_before_write l told part t) told.picture stored →
      StoredAt stored part.volume.0 (place_of l (grain_of_block l.grain part.block)) Lost after →
      let spot = spot_at l told (grain_of_block l.grain part.block) in
      let torn = Some (torn_of spot (own_step l.grain spot part t)) in
      Agrees (sheet_tear l (sheet_before_write l told part t) torn) (picture_tear l told.picture torn) after
  -- the slot of a write, a copy or a cleaning is live, and what is filled lacks the grain
  pub write_slot : (slots : List Slot) (v g : ℕ) → IsSome (live_place slots v) → g < volume_grains slots v → (t : ℕ) × (live_place slots v ≡ Some t) × IsLiveAt slots g t
  pub copy_slot : (slots : List Slot) (m g k : ℕ) → copied_slot slots m g ≡ Some k → IsLiveAt slots g k × ((column slots g).held k ≡ false)
  pub clean_slot : (slots : List Slot) (m g k : ℕ) → HasSizes slots → cleaned_slot slots m g ≡ Some k → IsLiveAt slots g k × ((column slots g).held k ≡ false)
  -- the moves that entries tell are those of the steps
  pub moves_told : (spot : Spot) (ks : List ℕ) → moves_of (map (step_of_move spot) ks) ≡ map (move_in spot) ks
  pub write_told : (grain : GrainSize) (spot : Spot) (part : WritePart) (t : ℕ) → moves_of (steps_of_write grain spot part t) ≡ map (move_in spot) (write_moves spot.column t)
