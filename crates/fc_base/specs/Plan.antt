-- The moves that a fill or a write owes, as the history tells them.
use Rattle.std.specs.Prelude.{ℕ, Option, Some, None, List, [], map}
use Rattle.fc_base.specs.declared.request.Move.{Move}
use Rattle.fc_base.specs.Sheet.{Slot, slot_at, column}
use Rattle.fc_base.specs.Moves.{is_in_place, fill_moves, write_moves}

-- The move of the slot at a place: `g` is the grain's place on the sheet, `grain` its number in the volume.
abbrev pub move_at : List Slot → ℕ → ℕ → ℕ → Move
move_at slots g grain k =
    record {
      slot = record { 0 = (slot_at slots k).birth };
      volume = record { 0 = (slot_at slots k).volume };
      grain = record { 0 = grain };
      in_place = is_in_place (column slots g) k;
    }

-- The moves of a fill of the slot at a place.
abbrev pub moves_of_fill : List Slot → ℕ → ℕ → ℕ → List Move
moves_of_fill slots g grain k = map (move_at slots g grain) (fill_moves (column slots g) k)

-- The moves of a write to the volume whose live slot is at this place.
abbrev pub moves_of_write : List Slot → ℕ → ℕ → Option ℕ → List Move
moves_of_write slots g grain None = []
moves_of_write slots g grain (Some t) = map (move_at slots g grain) (write_moves (column slots g) t)
