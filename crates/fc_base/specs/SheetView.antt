-- The chains of all lanes together, as decisions on commands see them.
use Rattle.std.specs.Prelude.{◌≡◌, ℕ, ◌<◌, Bool, List, [], ◌∷◌, map, AllPairs, Contains, Option, Some, None}
use Rattle.std.specs.List.{count_by}
use Rattle.fc_base.specs.declared.ids.MapId.{MapId}
use Rattle.fc_base.specs.declared.ids.VolId.{VolId}
use Rattle.fc_base.specs.Column.{Shape}
use Rattle.fc_base.specs.Counts.{need_count_of}
use Rattle.fc_base.specs.Need.{ReadsAt, IsDependent}
use Rattle.fc_base.specs.Pools.{Pool}
use Rattle.fc_base.specs.Room.{Room}
use Rattle.fc_base.specs.RestoreGraph.{HasNoLoop, IsToldLoop}
use Rattle.fc_base.specs.Sheet.{Slot, Sheet, slot_at, mapping_place}

-- The sheet of all grains; for each mapping the grains with which it would begin again (its restart set); the disks that
-- each lane has for new volumes; and which grains of volumes occupy memory.
pub record SheetView : Type 0 where
  pub sheet : Sheet
  pub restarts : ℕ → List Bool
  pub pools : List Pool
  pub rooms : List Room

-- What the slot of a mapping holds; none where it has no slot.
abbrev pub held_at : List Slot → Option ℕ → List Bool
held_at slots None = []
held_at slots (Some k) = (slot_at slots k).held

abbrev pub held_of : List Slot → ℕ → List Bool
held_of slots m = held_at slots (mapping_place slots m)

abbrev pub count_true : List Bool → ℕ
count_true bits = count_by (λ b. b) bits

-- At how many grains the slot of a mapping is needed; 0 where it has no slot.
abbrev pub needed_at : List Slot → Option ℕ → ℕ
needed_at slots None = 0
needed_at slots (Some k) = need_count_of slots k

abbrev pub needed_of : List Slot → ℕ → ℕ
needed_of slots m = needed_at slots (mapping_place slots m)

-- The live slot of mapping `n` has the slot of mapping `m` as holder at some grain.
pub record ReadsMapping (slots : List Slot) (m n : ℕ) : Type 0 where
  pub from : ℕ
  pub reader : ℕ
  pub from_there : mapping_place slots m ≡ Some from
  pub reader_there : mapping_place slots n ≡ Some reader
  pub reads : ReadsAt slots from from reader

-- The slot of mapping `n` is a dependent of the slot of mapping `m`.
pub record DependsOn (slots : List Slot) (m n : ℕ) : Type 0 where
  pub on : ℕ
  pub dependent : ℕ
  pub on_there : mapping_place slots m ≡ Some on
  pub dependent_there : mapping_place slots n ≡ Some dependent
  pub depends : IsDependent slots on dependent

-- Mappings by id, each once, and exactly those of which this holds.
abbrev pub IsRisingIds : List MapId → Type 0
IsRisingIds maps = AllPairs (λ (x y : MapId). x.0 < y.0) maps

pub record AreMappings (P : ℕ → Type 0) (maps : List MapId) : Type 0 where
  pub rising : IsRisingIds maps
  pub only : (n : MapId) → Contains maps n → P n.0
  pub all : (n : MapId) → P n.0 → Contains maps n

-- The loop that a start is refused for, or none.
abbrev pub LoopAnswer : Shape → Option (List VolId) → Type 0
LoopAnswer shape None = HasNoLoop shape
LoopAnswer shape (Some []) = ⊥
LoopAnswer shape (Some (v ∷ vs)) = IsToldLoop shape v.0 (map (λ (w : VolId). w.0) vs)
