-- The tests by which slots are found.
use Rattle.std.specs.Prelude.{ℕ, Bool, ◌&&◌, eqb, List, Option, option_map}
use Rattle.fc_base.specs.declared.ids.SlotId.{SlotId}
use Rattle.fc_base.specs.Column.{is_at}
use Rattle.fc_base.specs.Sheet.{Slot, slot_at, slot_id}

abbrev pub is_live_of : List Slot → ℕ → ℕ → Bool
is_live_of slots v k = (slot_at slots k).is_live && eqb (slot_at slots k).volume v

abbrev pub is_slot_of : List Slot → ℕ → ℕ → Bool
is_slot_of slots m k = is_at (slot_at slots k).mapping m

abbrev pub is_born : List Slot → ℕ → ℕ → Bool
is_born slots b k = eqb (slot_at slots k).birth b

-- The name of the slot at a place, if one was found.
abbrev pub found : List Slot → Option ℕ → Option SlotId
found slots o = option_map (slot_id slots) o
