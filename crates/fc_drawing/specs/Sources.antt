-- From whom moves copy.
use Rattle.std.specs.Prelude.{ℕ, fold, option_map, Option, Some, None, List, [], ◌∷◌}
use Rattle.fc_base.specs.Column.{holder}
use Rattle.fc_base.specs.Sheet.{Sheet, Slot, birth_place, column, slot_at, slot_id}
use Rattle.fc_base.specs.SheetStep.{sheet_moved}
use Rattle.fc_base.specs.declared.request.Move.{Move}
use Rattle.fc_drawing.specs.declared.sources.Source.{Source}

-- What names a slot.
abbrev pub source_at : List Slot → ℕ → Source
source_at slots k = record { slot = slot_id slots k; volume = record { 0 = (slot_at slots k).volume }; is_live = (slot_at slots k).is_live }

-- A move copies from the holder of its slot.
abbrev pub holder_at : List Slot → ℕ → Option ℕ → Option ℕ
holder_at slots g None = None
holder_at slots g (Some k) = holder (column slots g) k

abbrev pub source_of : Sheet → Move → Option Source
source_of s m = option_map (source_at s.slots) (holder_at s.slots m.grain.0 (birth_place s.slots m.slot.0))

-- Moves are made one after the other, each on the sheet that the ones before it left.
abbrev pub made : Sheet → Move → Sheet
made s m = sheet_moved m.volume.0 m.grain.0 m.in_place s

abbrev pub all_made : Sheet → List Move → Sheet
all_made s moves = fold made s moves

abbrev pub sources_of : Sheet → List Move → List (Option Source)
sources_of s [] = []
sources_of s (m ∷ ms) = source_of s m ∷ sources_of (made s m) ms
