-- Marks of slots that others need.
use Rattle.std.specs.Prelude.{◌≡◌, ◌⊎◌, ℕ, Bool, true, false, List, length, slice_index_or}
use Rattle.fc_base.specs.Need.{ReadsAt}
use Rattle.fc_base.specs.Sheet.{Slot}

-- Besides those that were marked, exactly those are of which this holds.
pub record AddsMarks (P : ℕ → Type 0) (old new : List Bool) : Type 0 where
  pub long : length new ≡ length old
  pub only : (k : ℕ) → slice_index_or new k false ≡ true → (slice_index_or old k false ≡ true) ⊎ P k
  pub kept : (k : ℕ) → slice_index_or old k false ≡ true → slice_index_or new k false ≡ true
  pub added : (k : ℕ) → P k → slice_index_or new k false ≡ true

-- A mark for each slot: some live slot other than it reads from it.
pub record AreNeeded (slots : List Slot) (marks : List Bool) : Type 0 where
  pub long : length marks ≡ length slots
  pub only : (k : ℕ) → slice_index_or marks k false ≡ true → (d : ℕ) × ReadsAt slots k k d
  pub all : (k d : ℕ) → ReadsAt slots k k d → slice_index_or marks k false ≡ true
