-- What the questions to a sheet answer.
use Rattle.std.specs.Prelude.{◌≡◌, ◌≢◌, ◌⊎◌, ℕ, ◌<◌, ◌≤◌, true, Some, List, length, AllPairs, Contains}
use Rattle.fc_base.specs.Column.{holder}
use Rattle.fc_base.specs.Need.{IsDependent}
use Rattle.fc_base.specs.Sheet.{Slot, slot_at, column}

-- The most grains that a slot has. Past the end of the list stands a slot of none.
pub record IsWidth (slots : List Slot) (width : ℕ) : Type 0 where
  pub most : (k : ℕ) → length (slot_at slots k).held ≤ width
  pub reached : (k : ℕ) × (length (slot_at slots k).held ≡ width)

-- The dependents of a slot, each once, in the order of their places.
pub record HasDependents (slots : List Slot) (on : ℕ) (places : List ℕ) : Type 0 where
  pub rising : AllPairs (λ x y. x < y) places
  pub only : (d : ℕ) → Contains places d → IsDependent slots on d
  pub all : (d : ℕ) → IsDependent slots on d → Contains places d

-- A slot has the slot at `on`, or one that is listed, as holder at some grain.
abbrev pub ReadsListed : List Slot → ℕ → ℕ → List ℕ → Type 0
ReadsListed slots on d listed = (g h : ℕ) × (holder (column slots g) d ≡ Some h) × ((h ≡ on) ⊎ Contains listed h)

-- A live slot other than the one at `on` that does.
pub record Joins (slots : List Slot) (on d : ℕ) (listed : List ℕ) : Type 0 where
  pub is_live : (slot_at slots d).is_live ≡ true
  pub other : d ≢ on
  pub reads : ReadsListed slots on d listed
