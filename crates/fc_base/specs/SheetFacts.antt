-- What holds of every sheet that is reached.
use Rattle.std.specs.Prelude.{◌≡◌, ◌≢◌, ℕ, ◌<◌, true, Some, None, List, length}
use Rattle.fc_base.specs.Column.{holder}
use Rattle.fc_base.specs.Sheet.{Slot, Sheet, slot_at, shape_of, column}
use Rattle.fc_base.specs.Need.{is_complete}
use Rattle.fc_base.specs.RestoreGraph.{HasOneLive, HasNoLoop}

-- Births name slots: each is below the count of births, and no two are equal. So are the labels of chains below it.
pub record HasNames (s : Sheet) : Type 0 where
  pub births : (k : ℕ) → k < length s.slots → (slot_at s.slots k).birth < s.births
  pub apart : (i j : ℕ) → i < length s.slots → j < length s.slots → (slot_at s.slots i).birth ≡ (slot_at s.slots j).birth → i ≡ j
  pub chains : (k : ℕ) → k < length s.slots → (slot_at s.slots k).chain < s.births
  -- the slot of a mapping began no chain, so a split makes a new one
  pub fresh : (i j : ℕ) (m : ℕ) → i < length s.slots → j < length s.slots → (slot_at s.slots i).mapping ≡ Some m → (slot_at s.slots j).chain ≢ (slot_at s.slots i).birth

-- Sizes: the slots of one chain have as many grains, and so have the slots of one volume.
pub record HasSizes (slots : List Slot) : Type 0 where
  pub of_chain : (i j : ℕ) → i < length slots → j < length slots → (slot_at slots i).chain ≡ (slot_at slots j).chain → length (slot_at slots i).held ≡ length (slot_at slots j).held
  pub of_volume : (i j : ℕ) → i < length slots → j < length slots → (slot_at slots i).volume ≡ (slot_at slots j).volume → length (slot_at slots i).held ≡ length (slot_at slots j).held

-- Mappings: no two slots are one mapping's, and a live slot that is no mapping's holds every grain and is first in its chain.
pub record HasMappings (slots : List Slot) : Type 0 where
  pub one_slot : (i j m : ℕ) → i < length slots → j < length slots → (slot_at slots i).mapping ≡ Some m → (slot_at slots j).mapping ≡ Some m → i ≡ j
  pub complete : (k : ℕ) → k < length slots → (slot_at slots k).is_live ≡ true → (slot_at slots k).mapping ≡ None → is_complete (slot_at slots k) ≡ true

-- Every volume that has a slot has a live one.
abbrev pub HasLives : List Slot → Type 0
HasLives slots = (k : ℕ) → k < length slots → (j : ℕ) × (j < length slots) × ((slot_at slots j).is_live ≡ true) × ((slot_at slots j).volume ≡ (slot_at slots k).volume)

-- Every live slot has a holder at each of its grains. So a live slot that is first in its chain holds every grain.
abbrev pub HasAllHolders : List Slot → Type 0
HasAllHolders slots =
    (g k : ℕ) → k < length slots → (slot_at slots k).is_live ≡ true → g < length (slot_at slots k).held → (h : ℕ) × (holder (column slots g) k ≡ Some h)

-- The facts together.
pub record IsSound (s : Sheet) : Type 0 where
  pub names : HasNames s
  pub sizes : HasSizes s.slots
  pub mappings : HasMappings s.slots
  pub one_live : HasOneLive (shape_of s.slots)
  pub lives : HasLives s.slots
  pub holders : HasAllHolders s.slots
  pub no_loop : HasNoLoop (shape_of s.slots)
