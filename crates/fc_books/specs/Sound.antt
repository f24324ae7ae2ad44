-- What holds of all books that are reached.
use Rattle.std.specs.Prelude.{◌≡◌, ◌≢◌, ℕ, ◌<◌, Bool, true, false, List, length, All, Contains, Option, Some, None, IsSome}
use Rattle.std.specs.Option.{ForSome}
use Rattle.fc_base.specs.Sheet.{Slot, slot_at, live_place, mapping_place}
use Rattle.fc_base.specs.SheetFacts.{IsSound}
use Rattle.fc_base.specs.Tables.{Tables, IsOrdered, volume_with, group_with}
use Rattle.fc_base.specs.declared.state.MapState.{MapState}
use Rattle.fc_base.specs.declared.state.MapState.TheVariants.{Empty, Copying, Stopping}
use Rattle.fc_base.specs.declared.volume.Group.{Group}
use Rattle.fc_base.specs.declared.volume.Mapping.{Mapping}
use Rattle.fc_base.specs.declared.volume.Volume.{Volume}
use Rattle.fc_books.specs.Accesses.{is_idle}
use Rattle.fc_books.specs.Books.{Books}
use Rattle.fc_pick.specs.Flags.{AreByMapping}
use Rattle.fc_pick.specs.declared.work.WorkFlags.{WorkFlags}

-- In each table ids rise and no name comes twice, and ids that are given next were never given.
pub record AreTables (b : Books) : Type 0 where
  pub volumes : IsOrdered (λ (v : Volume). v.id.0) (λ (v : Volume). v.name) b.tables.volumes
  pub mappings : IsOrdered (λ (m : Mapping). m.id.0) (λ (m : Mapping). m.name) b.tables.mappings
  pub groups : IsOrdered (λ (g : Group). g.id.0) (λ (g : Group). g.name) b.tables.groups
  pub new_volume : All (λ (v : Volume). v.id.0 < b.next_volume) b.tables.volumes
  pub new_mapping : All (λ (m : Mapping). m.id.0 < b.next_mapping) b.tables.mappings
  pub new_group : All (λ (g : Group). g.id.0 < b.next_group) b.tables.groups

-- A volume has so many grains.
abbrev pub HasGrains : Option Volume → ℕ → Type 0
HasGrains None grains = ⊥
HasGrains (Some v) grains = v.grains ≡ grains

-- A mapping's source and target are two volumes of the table, as large as one another, and its group is there.
pub record IsOfTables (t : Tables) (m : Mapping) : Type 0 where
  pub source : IsSome (volume_with t m.source)
  pub target : IsSome (volume_with t m.target)
  pub apart : m.source.0 ≢ m.target.0
  pub as_large : ForSome (volume_with t m.source) (λ (v : Volume). HasGrains (volume_with t m.target) v.grains)
  pub group : ForSome m.group (λ g. IsSome (group_with t g))
  pub state : m.state ≢ Empty

-- The slot of a mapping: of a copying one the live slot of its target; of a stopping one an old slot of its target; no other
-- mapping has one.
pub record HasSlot (slots : List Slot) (m : Mapping) (is_live : Bool) : Type 0 where
  pub place : ℕ
  pub is_there : mapping_place slots m.id.0 ≡ Some place
  pub of_target : (slot_at slots place).volume ≡ m.target.0
  pub liveness : (slot_at slots place).is_live ≡ is_live

abbrev pub SlotByState : MapState → List Slot → Mapping → Type 0
SlotByState Copying slots m = HasSlot slots m true
SlotByState Stopping slots m = HasSlot slots m false
SlotByState state slots m = mapping_place slots m.id.0 ≡ None

-- The tables and the chains tell of the same: the volumes of the table are those that have a live slot, with their grains;
-- each slot of a mapping is that of a mapping of the table; and of all mappings with one target at most one isn't idle.
pub record Agree (b : Books) : Type 0 where
  pub volumes : (v : Volume) → Contains b.tables.volumes v → (k : ℕ) × (live_place b.sheet.slots v.id.0 ≡ Some k) × (length (slot_at b.sheet.slots k).held ≡ v.grains)
  pub slots : (k : ℕ) → k < length b.sheet.slots → IsSome (volume_with b.tables record { 0 = (slot_at b.sheet.slots k).volume })
  pub owned : (k : ℕ) → k < length b.sheet.slots → ForSome (slot_at b.sheet.slots k).mapping (λ n. (m : Mapping) × Contains b.tables.mappings m × (m.id.0 ≡ n))
  pub mappings : (m : Mapping) → Contains b.tables.mappings m → IsOfTables b.tables m
  pub by_state : (m : Mapping) → Contains b.tables.mappings m → SlotByState m.state b.sheet.slots m
  pub one_busy : (m n : Mapping) → Contains b.tables.mappings m → Contains b.tables.mappings n → m.target.0 ≡ n.target.0 → is_idle m.state ≡ false → is_idle n.state ≡ false → m.id.0 ≡ n.id.0

-- Background work is noted by id, of mappings that were made.
pub record AreFlags (b : Books) : Type 0 where
  pub rising : AreByMapping b.flags
  pub given : All (λ (row : WorkFlags). row.map.0 < b.next_mapping) b.flags

-- All of it, and the facts of the chains.
pub record AreSound (b : Books) : Type 0 where
  pub tables : AreTables b
  pub flags : AreFlags b
  pub sheet : IsSound b.sheet
  pub agree : Agree b
