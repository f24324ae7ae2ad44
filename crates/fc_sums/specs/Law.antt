-- The law of sums: what lanes count adds up to what all grains count.
use Rattle.std.specs.Prelude.{◌≡◌, ◌≢◌, ℕ, ◌<◌, ◌/◌, ◌%◌, true, false, ◌↔◌, min, Some, List, ◌∷◌, map, fold, length, slice_index_or, Contains}
use Rattle.std.specs.List.{sum_by, list_any, list_all}
use Rattle.fc_base.specs.Counts.{UsedAt, reads_some, is_direct, is_unneeded}
use Rattle.fc_base.specs.Need.{ReadsAt, IsDependent}
use Rattle.fc_base.specs.Pools.{Pool, of_kind, least_of_kind}
use Rattle.fc_base.specs.Room.{Room, used_in}
use Rattle.fc_base.specs.Sheet.{Sheet, slot_at, slot_id, shape_of, live_place, mapping_place, birth_place, volume_grains}
use Rattle.fc_base.specs.SheetFacts.{HasNames, HasSizes, HasMappings}
use Rattle.fc_base.specs.SheetStep.{triggered}
use Rattle.fc_base.specs.SheetView.{held_of, needed_of, count_true, IsRisingIds, AreMappings, ReadsMapping, DependsOn}
use Rattle.fc_base.specs.declared.disk.DiskKind.{DiskKind}
use Rattle.fc_base.specs.declared.ids.MapId.{MapId}
use Rattle.fc_base.specs.declared.ids.SlotId.{SlotId}
use Rattle.fc_base.specs.declared.request.Pair.{Pair}
use Rattle.fc_base.specs.declared.size.GrainSize.{GrainSize}
use Rattle.fc_changed.specs.Row.{Row, restart_in}
use Rattle.fc_sums.specs.Parts.{part_of, parts_of, sheet_at, joined, has_name, unneeded_in, common_to, parts_of_rows, joined_rows, parts_of_rooms, joined_rooms}

-- The parts of so many lanes, by their numbers.
pub record PartsLaw (grain : GrainSize) (lanes : ℕ) (s : Sheet) : Type 0 where
  pub count : length (parts_of grain lanes s) ≡ lanes
  pub part : (i : ℕ) → i < lanes → sheet_at (parts_of grain lanes s) i ≡ part_of grain lanes s i

-- Grains are counted lane by lane.
pub record CountsLaw (grain : GrainSize) (lanes : ℕ) (s : Sheet) : Type 0 where
  -- what a mapping's slot holds, and at how many grains it is needed
  pub held : (m : ℕ) → sum_by (λ (p : Sheet). count_true (held_of p.slots m)) (parts_of grain lanes s) ≡ count_true (held_of s.slots m)
  pub needed : (m : ℕ) → sum_by (λ (p : Sheet). needed_of p.slots m) (parts_of grain lanes s) ≡ needed_of s.slots m
  -- the grains of a slot, of a mapping's slot and of a volume
  pub slot_size : (k : ℕ) → sum_by (λ (p : Sheet). length (slot_at p.slots k).held) (parts_of grain lanes s) ≡ length (slot_at s.slots k).held
  pub size : (m : ℕ) → sum_by (λ (p : Sheet). length (held_of p.slots m)) (parts_of grain lanes s) ≡ length (held_of s.slots m)
  pub grains : (v : ℕ) → sum_by (λ (p : Sheet). volume_grains p.slots v) (parts_of grain lanes s) ≡ volume_grains s.slots v
  -- a grain is held where its lane has it
  pub holds : (m g : ℕ) → slice_index_or (held_of (part_of grain lanes s (g % lanes)).slots m) (g / lanes) false ≡ slice_index_or (held_of s.slots m) g false

-- A part has the slots of all, at the same places, and holds less.
pub record SlotsLaw (whole : Sheet) (some : Sheet) : Type 0 where
  pub births : some.births ≡ whole.births
  pub shape : shape_of some.slots ≡ shape_of whole.slots
  pub mapping : (k : ℕ) → (slot_at some.slots k).mapping ≡ (slot_at whole.slots k).mapping
  pub name : (k : ℕ) → slot_id some.slots k ≡ slot_id whole.slots k
  pub lives : (v : ℕ) → live_place some.slots v ≡ live_place whole.slots v
  pub mappings : (m : ℕ) → mapping_place some.slots m ≡ mapping_place whole.slots m
  pub names : (b : ℕ) → birth_place some.slots b ≡ birth_place whole.slots b
  pub used : (v : ℕ) → UsedAt some.slots v ↔ UsedAt whole.slots v
  pub triggered : (pairs : List Pair) → shape_of (triggered pairs some).slots ≡ shape_of (triggered pairs whole).slots

-- A slot reads from another where it does in some lane.
pub record ReadsLaw (grain : GrainSize) (lanes : ℕ) (s : Sheet) : Type 0 where
  pub in_lane : (k h d : ℕ) → ReadsAt s.slots k h d → (i : ℕ) × (i < lanes) × ReadsAt (part_of grain lanes s i).slots k h d
  pub from_lane : (i k h d : ℕ) → i < lanes → ReadsAt (part_of grain lanes s i).slots k h d → ReadsAt s.slots k h d
  pub reads : (h k : ℕ) → reads_some s.slots h k ≡ list_any (λ (p : Sheet). reads_some p.slots h k) (parts_of grain lanes s)
  pub direct : (k j : ℕ) → is_direct s.slots k j ≡ list_any (λ (p : Sheet). is_direct p.slots k j) (parts_of grain lanes s)
  -- so do the slots of mappings
  pub mapping_in_lane : (m n : ℕ) → ReadsMapping s.slots m n → (i : ℕ) × (i < lanes) × ReadsMapping (part_of grain lanes s i).slots m n
  pub mapping_from_lane : (i m n : ℕ) → i < lanes → ReadsMapping (part_of grain lanes s i).slots m n → ReadsMapping s.slots m n

-- The dependents of a slot, step by step through lanes.
pub data DependsInLanes (grain : GrainSize) (lanes : ℕ) (s : Sheet) (k : ℕ) : ℕ → Type 0 where
  first_in : {i d : ℕ} → i < lanes → ReadsAt (part_of grain lanes s i).slots k k d → DependsInLanes grain lanes s k d
  onward_in : {i e d : ℕ} → i < lanes → DependsInLanes grain lanes s k e → ReadsAt (part_of grain lanes s i).slots k e d → DependsInLanes grain lanes s k d

-- Mappings, by id, that depend on a mapping, with all that read in some lane from it or from one of them.
pub record IsClosed (grain : GrainSize) (lanes : ℕ) (s : Sheet) (m : ℕ) (maps : List MapId) : Type 0 where
  pub rising : IsRisingIds maps
  pub reached : (n : MapId) → Contains maps n → DependsOn s.slots m n.0
  pub first : (i : ℕ) (n : MapId) → i < lanes → ReadsMapping (part_of grain lanes s i).slots m n.0 → Contains maps n
  pub onward : (i : ℕ) (e n : MapId) → i < lanes → Contains maps e → ReadsMapping (part_of grain lanes s i).slots e.0 n.0 → n.0 ≢ m → Contains maps n

-- Who reads from a mapping's slot and who depends on it, told by mappings and lanes. A live slot that is no mapping's holds
-- every grain, and so reads from itself alone.
pub record DependsLaw (grain : GrainSize) (lanes : ℕ) (s : Sheet) : Type 0 where
  pub has_mapping : (k h d : ℕ) → ReadsAt s.slots k h d → h ≢ d → (n : ℕ) × (mapping_place s.slots n ≡ Some d)
  pub dependent_mapping : (k d : ℕ) → IsDependent s.slots k d → (n : ℕ) × (mapping_place s.slots n ≡ Some d)
  pub direct : (m n from reader : ℕ) → mapping_place s.slots m ≡ Some from → mapping_place s.slots n ≡ Some reader →
      (is_direct s.slots from reader ≡ true) ↔ ReadsMapping s.slots m n
  pub all_direct : (m : ℕ) (maps : List MapId) → IsRisingIds maps →
      ((n : MapId) → Contains maps n → (i : ℕ) × (i < lanes) × ReadsMapping (part_of grain lanes s i).slots m n.0) →
      ((i : ℕ) (n : MapId) → i < lanes → ReadsMapping (part_of grain lanes s i).slots m n.0 → Contains maps n) →
      AreMappings (ReadsMapping s.slots m) maps
  pub dependents : (k d : ℕ) → IsDependent s.slots k d ↔ DependsInLanes grain lanes s k d
  pub first : (i m n : ℕ) → i < lanes → ReadsMapping (part_of grain lanes s i).slots m n → DependsOn s.slots m n
  pub onward : (i m e n : ℕ) → i < lanes → DependsOn s.slots m e → ReadsMapping (part_of grain lanes s i).slots e n → n ≢ m → DependsOn s.slots m n
  pub all_dependents : (m : ℕ) (maps : List MapId) → IsClosed grain lanes s m maps → AreMappings (DependsOn s.slots m) maps

-- An old slot is unneeded where it is in every lane; and so the names of those slots are what all lanes have in common.
pub record UnneededLaw (grain : GrainSize) (lanes : ℕ) (s : Sheet) : Type 0 where
  pub slot : (k : ℕ) → is_unneeded s.slots k ≡ list_all (λ (p : Sheet). is_unneeded p.slots k) (parts_of grain lanes s)
  pub names : common_to (map (λ (p : Sheet). unneeded_in p.slots) (parts_of grain lanes s)) ≡ unneeded_in s.slots

pub record SumLaw : Type 0 where
  pub parts : (grain : GrainSize) (lanes : ℕ) (s : Sheet) → PartsLaw grain lanes s
  pub counts : (grain : GrainSize) (lanes : ℕ) (s : Sheet) → 0 < lanes → CountsLaw grain lanes s
  pub slots : (grain : GrainSize) (lanes i : ℕ) (s : Sheet) → i < lanes → SlotsLaw s (part_of grain lanes s i)
  pub reads : (grain : GrainSize) (lanes : ℕ) (s : Sheet) → 0 < lanes → ReadsLaw grain lanes s
  pub depends : (grain : GrainSize) (lanes : ℕ) (s : Sheet) → 0 < lanes → HasSizes s.slots → HasMappings s.slots → DependsLaw grain lanes s
  pub unneeded : (grain : GrainSize) (lanes : ℕ) (s : Sheet) → 0 < lanes → HasNames s → UnneededLaw grain lanes s
  pub has_name : (names : List SlotId) (name : SlotId) → (has_name names name ≡ true) ↔ Contains names name
  -- the sheet of all is found again from its parts
  pub joins : (grain : GrainSize) (lanes : ℕ) (s : Sheet) → 0 < lanes → joined (parts_of grain lanes s) ≡ s
  -- the grains with which a mapping would begin again are counted lane by lane, and the rows of all are found again from their
  -- parts
  pub restarts : (grain : GrainSize) (lanes m : ℕ) (rows : List Row) → 0 < lanes →
      sum_by (λ (part : List Row). count_true (restart_in m part)) (parts_of_rows grain lanes rows) ≡ count_true (restart_in m rows)
  pub rows_join : (grain : GrainSize) (lanes : ℕ) (rows : List Row) → 0 < lanes → joined_rows (parts_of_rows grain lanes rows) ≡ rows
  -- the grains of a volume that occupy memory are counted lane by lane, and the rooms of all are found again from their parts
  pub used : (grain : GrainSize) (lanes id : ℕ) (rooms : List Room) → 0 < lanes →
      sum_by (λ (part : List Room). used_in part id) (parts_of_rooms grain lanes rooms) ≡ used_in rooms id
  pub rooms_join : (grain : GrainSize) (lanes : ℕ) (rooms : List Room) → 0 < lanes → joined_rooms (parts_of_rooms grain lanes rooms) ≡ rooms
  -- the least pool, lane by lane
  pub pools : (kind : DiskKind) (pool : Pool) (pools : List Pool) →
      least_of_kind kind (pool ∷ pools) ≡ fold (λ least p. min least (of_kind kind p)) (of_kind kind pool) pools
