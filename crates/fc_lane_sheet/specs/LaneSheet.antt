-- The chains of all lanes together, as the lanes tell them.
use Rattle.std.specs.Prelude.{◌≡◌, ◌≢◌, nat_eq, fold, slice_index_or, ℕ, ◌<◌, ◌^◌, Bool, false, cond, ◌||◌, ◌==◌, Option, Some, None, List, [], ◌∷◌, ◌++◌, length, map, flat_map, AllPairs, Contains}
use Rattle.std.specs.List.{list_any, IsDistinct}
use Rattle.fc_base.specs.Counts.{names_below, is_direct}
use Rattle.fc_base.specs.Pools.{Pool}
use Rattle.fc_base.specs.Room.{Room}
use Rattle.fc_base.specs.Sheet.{Slot, Sheet, slot_at, birth_place, mapping_place}
use Rattle.fc_base.specs.SheetFacts.{IsSound}
use Rattle.fc_base.specs.SheetView.{SheetView, AreMappings, ReadsMapping, DependsOn}
use Rattle.fc_base.specs.declared.ids.MapId.{MapId}
use Rattle.fc_base.specs.declared.ids.SlotId.{SlotId}
use Rattle.fc_base.specs.declared.size.GrainSize.{GrainSize}
use Rattle.fc_base.specs.declared.volume.Mapping.{Mapping}
use Rattle.fc_base.specs.declared.volume.Volume.{Volume}
use Rattle.fc_changed.specs.Row.{Row, restart_in}
use Rattle.fc_chain.specs.Chains.{found}
use Rattle.fc_grains.specs.Volumes.{rooms_of}
use Rattle.fc_lane.specs.Lane.{LaneView}
use Rattle.fc_sums.specs.Parts.{parts_of, joined, has_name, parts_of_rows, joined_rows, parts_of_rooms, joined_rooms}

abbrev pub chains_of : List LaneView → List Sheet
chains_of lanes = map (λ (v : LaneView). v.chains.sheet) lanes

abbrev pub pools_of : List LaneView → List Pool
pools_of lanes = map (λ (v : LaneView). v.grains.pool) lanes

abbrev pub rows_of : List LaneView → List (List Row)
rows_of lanes = map (λ (v : LaneView). v.changes.rows) lanes

abbrev pub rooms_in : List LaneView → List (List Room)
rooms_in lanes = map (λ (v : LaneView). rooms_of v.grains.volumes) lanes

-- The sheet of which the lanes have the parts; the restart sets by the rows of which they have the parts; the disks that each lane
-- has for new volumes; and the rooms of which the lanes have the parts.
abbrev pub sheet_of : List LaneView → Sheet
sheet_of lanes = joined (chains_of lanes)

abbrev pub all_rows : List LaneView → List Row
all_rows lanes = joined_rows (rows_of lanes)

abbrev pub all_rooms : List LaneView → List Room
all_rooms lanes = joined_rooms (rooms_in lanes)

abbrev pub restart_of : List LaneView → ℕ → List Bool
restart_of lanes m = restart_in m (all_rows lanes)

abbrev pub view_of : List LaneView → SheetView
view_of lanes =
    record { sheet = sheet_of lanes; restarts = restart_of lanes; pools = pools_of lanes; rooms = all_rooms lanes }

-- The slots that have the slot with this name as holder at some grain of a lane; and of all lanes, one after another.
abbrev pub direct_at : List Slot → Option ℕ → List SlotId
direct_at slots None = []
direct_at slots (Some k) = names_below slots (is_direct slots k) (length slots)

abbrev pub direct_of : SlotId → Sheet → List SlotId
direct_of name s = direct_at s.slots (birth_place s.slots name.0)

abbrev pub readers_in : List LaneView → SlotId → List SlotId
readers_in lanes name = flat_map (λ (v : LaneView). direct_of name v.chains.sheet) lanes

-- The slot of a mapping is among these.
abbrev pub is_slot_among : List SlotId → Option SlotId → Bool
is_slot_among names None = false
is_slot_among names (Some name) = has_name names name

abbrev pub is_owner_among : List SlotId → Sheet → ℕ → Bool
is_owner_among names s m = is_slot_among names (found s.slots (mapping_place s.slots m))

-- A mapping is among these; and these with one more, unless it is that one or among them.
abbrev pub has_map : List MapId → MapId → Bool
has_map maps m = list_any (λ (x : MapId). m.0 == x.0) maps

abbrev pub with_map : MapId → List MapId → MapId → List MapId
with_map but maps m = cond (m.0 == but.0 || has_map maps m) maps (maps ++ m ∷ [])

-- Mappings by id, and each that has a slot.
pub record AreListed (s : Sheet) (mappings : List Mapping) : Type 0 where
  pub rising : AllPairs (λ (a b : Mapping). a.id.0 < b.id.0) mappings
  pub owned : (k n : ℕ) → k < length s.slots → (slot_at s.slots k).mapping ≡ Some n → (m : Mapping) × Contains mappings m × (m.id.0 ≡ n)

-- The chains of each lane know which lane it is, of how many, and so does the lane.
abbrev pub AreInOrder : List LaneView → Type 0
AreInOrder lanes = (i : ℕ) (d : LaneView) → i < length lanes →
    ((slice_index_or lanes i d).chains.lane ≡ i) × ((slice_index_or lanes i d).chains.lanes ≡ length lanes) × ((slice_index_or lanes i d).lane ≡ i)

-- There are lanes, in order; their chains are the parts of one sound sheet, what they keep of incremental mappings the parts of
-- one list of rows, and the memory that their disks use that of one list of rooms; and grains can be counted.
pub record HaveSheet (lanes : List LaneView) : Type 0 where
  pub grain : GrainSize
  pub some : 0 < length lanes
  pub in_order : AreInOrder lanes
  pub parts : chains_of lanes ≡ parts_of grain (length lanes) (sheet_of lanes)
  pub sound : IsSound (sheet_of lanes)
  pub countable : (k : ℕ) → length (slot_at (sheet_of lanes).slots k).held < 2 ^ 32
  pub row_parts : rows_of lanes ≡ parts_of_rows grain (length lanes) (all_rows lanes)
  pub few_restart : (m : ℕ) → length (restart_of lanes m) < 2 ^ 32
  pub room_parts : rooms_in lanes ≡ parts_of_rooms grain (length lanes) (all_rooms lanes)

-- Mappings that depend on this one, each once, with all that read from it; and so many of them were asked who reads from
-- them.
abbrev pub ids_of : List MapId → List ℕ
ids_of maps = map (λ (x : MapId). x.0) maps

pub record Reached (s : Sheet) (m : MapId) (asked : ℕ) (maps : List MapId) : Type 0 where
  pub distinct : IsDistinct nat_eq (ids_of maps)
  pub only : (n : MapId) → Contains maps n → DependsOn s.slots m.0 n.0
  pub first : (n : MapId) → ReadsMapping s.slots m.0 n.0 → Contains maps n
  pub onward : (j : ℕ) (d n : MapId) → j < asked → j < length maps → ReadsMapping s.slots (slice_index_or maps j d).0 n.0 → n.0 ≢ m.0 → Contains maps n

-- Those that read from a mapping's slot are added.
pub record AddsReaders (s : Sheet) (but : MapId) (from : ℕ) (old new : List MapId) : Type 0 where
  pub more : List MapId
  pub readers : AreMappings (ReadsMapping s.slots from) more
  pub added : new ≡ fold (with_map but) old more

-- The grains of each volume can be counted.
abbrev pub AreCountable : List Volume → Type 0
AreCountable volumes = (v : Volume) → Contains volumes v → v.grains < 2 ^ 32

-- Lanes with one sheet, and the table of its mappings.
pub record IsAsked (lanes : List LaneView) (mappings : List Mapping) : Type 0 where
  pub have : HaveSheet lanes
  pub listed : AreListed (sheet_of lanes) mappings
