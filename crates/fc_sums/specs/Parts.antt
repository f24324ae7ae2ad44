-- The parts of all lanes, in order of the lanes, and the sheet that they are parts of.
use Rattle.std.specs.Prelude.{ℕ, ◌/◌, ◌%◌, Bool, false, ◌==◌, List, [], ◌∷◌, length, map, filter, fold, slice_index_or}
use Rattle.std.specs.List.{sum_by, list_any, range_with_len}
use Rattle.fc_base.specs.Counts.{names_below, is_unneeded}
use Rattle.fc_base.specs.Room.{Room}
use Rattle.fc_base.specs.Sheet.{Slot, Sheet, no_slots, slot_at}
use Rattle.fc_base.specs.declared.ids.SlotId.{SlotId}
use Rattle.fc_base.specs.declared.size.GrainSize.{GrainSize}
use Rattle.fc_changed.specs.Row.{Row}
use Rattle.fc_legal.specs.Whole.{part_of_sheet, part_of_rows, part_of_rooms}
use Rattle.fc_rules.specs.LaneTold.{LaneOf}

-- A lane of so many.
abbrev pub lane_of : GrainSize → ℕ → ℕ → LaneOf
lane_of grain lanes i = record { lane = i; lanes = lanes; grain = grain }

-- The part of a lane, and the parts of all lanes.
abbrev pub part_of : GrainSize → ℕ → Sheet → ℕ → Sheet
part_of grain lanes s i = part_of_sheet (lane_of grain lanes i) s

abbrev pub parts_of : GrainSize → ℕ → Sheet → List Sheet
parts_of grain lanes s = map (part_of grain lanes s) (range_with_len 0 lanes)

-- ---- the sheet of parts

-- The part at a place of a list.
abbrev pub sheet_at : List Sheet → ℕ → Sheet
sheet_at parts i = slice_index_or parts i no_slots

-- What the slot at a place holds of all grains: a grain stands in the part that its number leaves when divided by how
-- many there are, and as many grains as the parts have together.
abbrev pub grains_held : List Sheet → ℕ → ℕ
grains_held parts k = sum_by (λ (p : Sheet). length (slot_at p.slots k).held) parts

abbrev pub holds_at : List Sheet → ℕ → ℕ → Bool
holds_at parts k g = slice_index_or (slot_at (sheet_at parts (g % length parts)).slots k).held (g / length parts) false

abbrev pub joined_held : List Sheet → ℕ → List Bool
joined_held parts k = map (holds_at parts k) (range_with_len 0 (grains_held parts k))

-- The sheet of all grains: the slots of the first part, with what they hold of all.
abbrev pub joined_slot : List Sheet → ℕ → Slot
joined_slot parts k = record (slot_at (sheet_at parts 0).slots k) { held = joined_held parts k }

abbrev pub joined : List Sheet → Sheet
joined parts =
    record {
      births = (sheet_at parts 0).births;
      slots = map (joined_slot parts) (range_with_len 0 (length (sheet_at parts 0).slots));
    }

-- ---- names that lanes have in common

abbrev pub has_name : List SlotId → SlotId → Bool
has_name names name = list_any (λ (n : SlotId). n.0 == name.0) names

-- The names of the one list that the other has too.
abbrev pub common : List SlotId → List SlotId → List SlotId
common names others = filter (has_name others) names

abbrev pub common_to : List (List SlotId) → List SlotId
common_to [] = []
common_to (names ∷ more) = fold common names more

-- The old slots that no slot needs at any grain, by name, in order of their places.
abbrev pub unneeded_in : List Slot → List SlotId
unneeded_in slots = names_below slots (is_unneeded slots) (length slots)

-- ---- what is kept of incremental mappings

-- The rows of the parts, and the rows that they are parts of: those of the first part, with the grains of all.
abbrev pub parts_of_rows : GrainSize → ℕ → List Row → List (List Row)
parts_of_rows grain lanes rows = map (λ i. part_of_rows (lane_of grain lanes i) rows) (range_with_len 0 lanes)

abbrev pub rows_at : List (List Row) → ℕ → List Row
rows_at parts i = slice_index_or parts i []

abbrev pub row_at : List Row → ℕ → Row
row_at rows k = slice_index_or rows k (record { map = 0; source = 0; target = 0; into = 0; same = [] })

abbrev pub same_at : List (List Row) → ℕ → ℕ → Bool
same_at parts k g = slice_index_or (row_at (rows_at parts (g % length parts)) k).same (g / length parts) false

abbrev pub joined_same : List (List Row) → ℕ → List Bool
joined_same parts k = map (same_at parts k) (range_with_len 0 (sum_by (λ (rows : List Row). length (row_at rows k).same) parts))

abbrev pub joined_row : List (List Row) → ℕ → Row
joined_row parts k = record (row_at (rows_at parts 0) k) { same = joined_same parts k }

abbrev pub joined_rows : List (List Row) → List Row
joined_rows parts = map (joined_row parts) (range_with_len 0 (length (rows_at parts 0)))

-- ---- which grains occupy memory

-- The rooms of the parts, and the rooms that they are parts of: those of the first part, with the grains of all.
abbrev pub parts_of_rooms : GrainSize → ℕ → List Room → List (List Room)
parts_of_rooms grain lanes rooms = map (λ i. part_of_rooms (lane_of grain lanes i) rooms) (range_with_len 0 lanes)

abbrev pub rooms_at : List (List Room) → ℕ → List Room
rooms_at parts i = slice_index_or parts i []

abbrev pub room_at : List Room → ℕ → Room
room_at rooms k = slice_index_or rooms k (record { volume = record { 0 = 0 }; reached = [] })

abbrev pub reached_at : List (List Room) → ℕ → ℕ → Bool
reached_at parts k g = slice_index_or (room_at (rooms_at parts (g % length parts)) k).reached (g / length parts) false

abbrev pub joined_reached : List (List Room) → ℕ → List Bool
joined_reached parts k = map (reached_at parts k) (range_with_len 0 (sum_by (λ (rooms : List Room). length (room_at rooms k).reached) parts))

abbrev pub joined_room : List (List Room) → ℕ → Room
joined_room parts k = record (room_at (rooms_at parts 0) k) { reached = joined_reached parts k }

abbrev pub joined_rooms : List (List Room) → List Room
joined_rooms parts = map (joined_room parts) (range_with_len 0 (length (rooms_at parts 0)))
