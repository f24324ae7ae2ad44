-- Which grain a worker's turn takes, and what it is at one grain.
use Rattle.std.specs.Prelude.{ℕ, true, cond, Option, Some, None, List, length, slice_index_or, option_map, is_some}
use Rattle.fc_base.specs.Column.{first_below, needer}
use Rattle.fc_base.specs.Sheet.{Slot, slot_at, column, mapping_place}
use Rattle.fc_base.specs.declared.ids.MapId.{MapId}
use Rattle.fc_base.specs.declared.ids.GrainNo.{GrainNo}
use Rattle.fc_entry.specs.Picture.{volume_in, now_at}
use Rattle.fc_pick.specs.Next.{next_work}
use Rattle.fc_pick.specs.declared.work.WorkFlags.{WorkFlags}
use Rattle.fc_rules.specs.LaneTold.{LaneOf, LaneTold, place_of, number_at, is_thin_in}
use Rattle.fc_rules.specs.Spot.{Spot}

-- All that matters at a grain of the lane.
abbrev pub spot_at : LaneOf → LaneTold → ℕ → Spot
spot_at l told number =
    record {
      column = column told.sheet.slots (place_of l number);
      number = number;
      now = λ v. now_at (volume_in told.picture record { 0 = v }) (place_of l number);
      is_thin = λ v. is_thin_in told.volumes v;
    }

-- A copy of a mapping fills its live slot where it lacks the grain.
abbrev pub lacks_at : List Slot → Option ℕ → ℕ → Option ℕ
lacks_at slots None g = None
lacks_at slots (Some k) g = cond (slot_at slots k).is_live (cond (slice_index_or (slot_at slots k).held g true) None (Some k)) None

abbrev pub copied_slot : List Slot → ℕ → ℕ → Option ℕ
copied_slot slots m g = lacks_at slots (mapping_place slots m) g

-- A cleaning of a mapping fills the needer of its slot.
abbrev pub needer_at : List Slot → Option ℕ → ℕ → Option ℕ
needer_at slots None g = None
needer_at slots (Some k) g = needer (column slots g) k

abbrev pub cleaned_slot : List Slot → ℕ → ℕ → Option ℕ
cleaned_slot slots m g = needer_at slots (mapping_place slots m) g

-- The grains of a mapping's slot.
abbrev pub grains_of : List Slot → Option ℕ → ℕ
grains_of slots None = 0
grains_of slots (Some k) = length (slot_at slots k).held

-- The least grain of the lane that a copy, or a cleaning, of the mapping could fill.
abbrev pub least_grain : LaneOf → List Slot → (ℕ → Option ℕ) → ℕ → Option GrainNo
least_grain l slots filled m =
    option_map (λ g. record { 0 = number_at l g }) (first_below (λ g. is_some (filled g)) (grains_of slots (mapping_place slots m)))

-- The first mapping by id that has copies to make in the lane, and its least grain; and likewise for cleanings.
abbrev pub next_copy : LaneOf → LaneTold → Option (MapId × GrainNo)
next_copy l told =
    next_work (λ (row : WorkFlags). row.copies)
    (λ (m : MapId). least_grain l told.sheet.slots (copied_slot told.sheet.slots m.0) m.0)
    told.flags

abbrev pub next_clean : LaneOf → LaneTold → Option (MapId × GrainNo)
next_clean l told =
    next_work (λ (row : WorkFlags). row.cleans)
    (λ (m : MapId). least_grain l told.sheet.slots (cleaned_slot told.sheet.slots m.0) m.0)
    told.flags
