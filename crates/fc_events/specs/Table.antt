-- The slots of all chains, with room for more.
use Rattle.std.specs.Prelude.{◌≡◌, ℕ, ◌+◌, ◌<◌, ◌≤◌, Bool, List, [], length, slice_index_or}
use Rattle.fc_base.specs.Sheet.{Slot, Sheet, slot_at}

-- The sheet, and how many slots can be made, of at most how many grains each, without taking memory.
pub record Table : Type 0 where
  pub sheet : Sheet
  pub room : ℕ
  pub width : ℕ

-- The slots and the spare sets stand in memory that is there; a spare set is as wide as the widest slot, or wider.
pub record IsRoomy (slots : List Slot) (spare : List (List Bool)) (width capacity : ℕ) : Type 0 where
  pub fits : length slots + length spare ≤ capacity
  pub sets : (k : ℕ) → k < length spare → length (slice_index_or spare k []) ≡ width
  pub wide : (k : ℕ) → k < length slots → length (slot_at slots k).held ≤ width
