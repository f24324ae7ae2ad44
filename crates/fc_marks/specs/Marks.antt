-- Which writes are to be marked, and what marks make of rows.
use Rattle.std.specs.Prelude.{ℕ, Bool, not, ◌==◌, ◌&&◌, fold, List}
use Rattle.std.specs.List.{list_any}
use Rattle.fc_base.specs.declared.ids.GrainNo.{GrainNo}
use Rattle.fc_base.specs.declared.ids.VolId.{VolId}
use Rattle.fc_changed.specs.Notes.{has}
use Rattle.fc_changed.specs.Notes.Note.{Wrote}
use Rattle.fc_changed.specs.Row.{Row, after_note, row_names}
use Rattle.fc_marks.specs.declared.marks.Mark.{Mark}

abbrev pub is_at : VolId → GrainNo → Mark → Bool
is_at volume grain mark = (mark.volume.0 == volume.0) && (mark.grain.0 == grain.0)

-- A mark is of the grain, and of a volume that the row names.
abbrev pub is_told : Row → List Mark → GrainNo → Bool
is_told row marks grain = list_any (λ (mark : Mark). (mark.grain.0 == grain.0) && row_names row mark.volume.0) marks

-- A row of a lane names the volume and has the grain, which is at this place among the lane's, as the same; and no mark tells of it.
abbrev pub is_open : List Mark → VolId → GrainNo → ℕ → Row → Bool
is_open marks volume grain place row = row_names row volume.0 && (has row.same place && not (is_told row marks grain))

abbrev pub is_open_any : List Row → List Mark → VolId → GrainNo → ℕ → Bool
is_open_any rows marks volume grain place = list_any (is_open marks volume grain place) rows

-- The rows of metadata: those of the history, and each grain that is marked has changed.
abbrev pub mark_row : List Row → Mark → List Row
mark_row rows mark = after_note rows (Wrote mark.volume.0 mark.grain.0)

abbrev pub marked : List Mark → List Row → List Row
marked marks rows = fold mark_row rows marks
