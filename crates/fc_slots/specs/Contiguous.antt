-- The slots of one chain stand together.
use Rattle.std.specs.Prelude.{◌≡◌, ℕ, ◌<◌, List, length}
use Rattle.fc_base.specs.Sheet.{Slot, slot_at}

-- No slot of another chain stands between two slots of one.
abbrev pub IsContiguous : List Slot → Type 0
IsContiguous slots =
    (i j k : ℕ) → i < j → j < k → k < length slots → (slot_at slots i).chain ≡ (slot_at slots k).chain → (slot_at slots j).chain ≡ (slot_at slots k).chain
