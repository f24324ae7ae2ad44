-- The old slots of a volume, in the order of their births.
use Rattle.std.specs.Prelude.{◌≡◌, ℕ, ◌<◌, false, ◌&&◌, Option, Some, None, List, [], ◌∷◌, length}
use Rattle.fc_base.specs.Column.{is_old_of, places_by_birth}
use Rattle.fc_base.specs.Sheet.{Slot, slot_at, shape_of}
use Rattle.fc_slots.specs.Births.{is_after}

-- The old slots of a volume born after one, least birth first.
abbrev pub old_after : List Slot → ℕ → Option ℕ → List ℕ
old_after slots v after =
    places_by_birth (shape_of slots).birth (λ k. is_old_of (shape_of slots) v k && is_after after (slot_at slots k).birth) (length slots)

-- The next of them is this, or there is none.
pub record IsNextOld (slots : List Slot) (v : ℕ) (after : Option ℕ) (k : ℕ) : Type 0 where
  pub there : k < length slots
  pub is_old : (slot_at slots k).is_live ≡ false
  pub rest : old_after slots v after ≡ k ∷ old_after slots v (Some (slot_at slots k).birth)

abbrev pub NextOld : List Slot → ℕ → Option ℕ → Option ℕ → Type 0
NextOld slots v after None = old_after slots v after ≡ []
NextOld slots v after (Some k) = IsNextOld slots v after k

-- No two slots have one birth.
abbrev pub HasApartBirths : List Slot → Type 0
HasApartBirths slots =
    (i j : ℕ) → i < length slots → j < length slots → (slot_at slots i).birth ≡ (slot_at slots j).birth → i ≡ j
