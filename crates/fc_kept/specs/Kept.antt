-- All that metadata says, of all grains, and what a record makes of it.
use Rattle.std.specs.Prelude.{ℕ, Bool, true, false, ◌==◌, if◌then◌else◌, cond, List, [], ◌∷◌, map, fold, slice_set}
use Rattle.fc_base.specs.Sheet.{Sheet}
use Rattle.fc_base.specs.SheetStep.{sheet_moved, sheet_written, sheet_torn}
use Rattle.fc_base.specs.Tables.{Tables}
use Rattle.fc_base.specs.declared.request.Side.TheVariants.{Now, Under}
use Rattle.fc_changed.specs.Notes.Note.{Wrote}
use Rattle.fc_changed.specs.Notes.{has}
use Rattle.fc_changed.specs.Row.{Row, after_note}
use Rattle.fc_image.specs.declared.record.MetaRecord.{MetaRecord}
use Rattle.fc_image.specs.declared.record.MetaRecord.TheVariants.{Pair, Written, Torn, Changing}

-- The lost grains of a volume: those that a failed write left with any bytes.
pub record LostGrains : Type 0 where
  pub volume : ℕ
  pub lost : List Bool

-- The tables, and the id that the next volume, mapping and group will get; the chains of copies; the row of each mapping that is
-- followed, which are the incremental ones from their first trigger on; and the lost grains of each volume, by id.
pub record Kept : Type 0 where
  pub tables : Tables
  pub next_volume : ℕ
  pub next_mapping : ℕ
  pub next_group : ℕ
  pub sheet : Sheet
  pub rows : List Row
  pub lost : List LostGrains

-- whether a volume's grain is lost
abbrev pub is_lost_in : List LostGrains → ℕ → ℕ → Bool
is_lost_in [] v g = false
is_lost_in (row ∷ rows) v g = if row.volume == v then has row.lost g else is_lost_in rows v g

-- ---- records

-- What a record does to the chains: a move, a write, a failed write.
abbrev pub sheet_kept : Sheet → MetaRecord → Sheet
sheet_kept s (Pair slot volume grain in_place empty) = sheet_moved volume.0 grain.0 in_place s
sheet_kept s (Written volume grain) = sheet_written volume.0 grain.0 s
sheet_kept s (Torn volume grain side) = sheet_torn volume.0 grain.0 side s
sheet_kept s (Changing volume grain) = s

-- To the rows: a write, done or about to begin, and a failed one that spoils what the volume shows.
abbrev pub rows_kept : List Row → MetaRecord → List Row
rows_kept rows (Pair slot volume grain in_place empty) = rows
rows_kept rows (Written volume grain) = after_note rows (Wrote volume.0 grain.0)
rows_kept rows (Torn volume grain Now) = after_note rows (Wrote volume.0 grain.0)
rows_kept rows (Torn volume grain Under) = rows
rows_kept rows (Changing volume grain) = after_note rows (Wrote volume.0 grain.0)

-- To the lost grains: a copy leaves its grain lost exactly where it was lost where it came from, a move in place leaves it as it
-- was; a write leaves it whole, a failed one lost.
abbrev pub lost_put : ℕ → ℕ → Bool → LostGrains → LostGrains
lost_put v g value row = if row.volume == v then record row { lost = slice_set row.lost g value } else row

abbrev pub lost_kept : List LostGrains → MetaRecord → List LostGrains
lost_kept lost (Pair slot volume grain in_place empty) = cond in_place lost (map (lost_put volume.0 grain.0 empty) lost)
lost_kept lost (Written volume grain) = map (lost_put volume.0 grain.0 false) lost
lost_kept lost (Torn volume grain side) = map (lost_put volume.0 grain.0 true) lost
lost_kept lost (Changing volume grain) = lost

abbrev pub kept_after : Kept → MetaRecord → Kept
kept_after k r = record k { sheet = sheet_kept k.sheet r; rows = rows_kept k.rows r; lost = lost_kept k.lost r }

-- all records, the first of them first
abbrev pub kept_after_all : Kept → List MetaRecord → Kept
kept_after_all k rs = fold kept_after k rs
