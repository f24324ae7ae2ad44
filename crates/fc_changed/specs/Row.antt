-- What is kept for each mapping that is followed, and what a note does to it.
use Rattle.std.specs.Prelude.{ℕ, Bool, true, false, not, ◌&&◌, ◌==◌, if◌then◌else◌, List, [], ◌∷◌, ◌++◌, map, filter, find, replicate, length, slice_set, Option, Some, None}
use Rattle.std.specs.List.{list_any}
use Rattle.fc_changed.specs.Notes.{Note, has, grains_with, joins, names}
use Rattle.fc_changed.specs.Notes.Note.{Began, Wrote, Left, Cut, Forgotten}

-- A mapping that is followed: its volumes; which of them was the target of the last trigger that joined them; and the grains at
-- which both have shown the same ever since.
pub record Row : Type 0 where
  pub map : ℕ
  pub source : ℕ
  pub target : ℕ
  pub into : ℕ
  pub same : List Bool

abbrev pub is_of : ℕ → Row → Bool
is_of m row = m == row.map

abbrev pub row_names : Row → ℕ → Bool
row_names row volume = names row.source row.target volume

-- ---- what a note does to a row

-- A row where both volumes are the same at every grain, or at none.
abbrev pub with_all : Row → Row
with_all row = record row { same = replicate (length row.same) true }

abbrev pub with_none : Row → Row
with_none row = record row { same = replicate (length row.same) false }

-- A trigger that joins the row's volumes makes them the same; another one to either makes them differ.
abbrev pub row_began : (source target : ℕ) → Row → Row
row_began source target row =
    if joins row.source row.target source target then record (with_all row) { into = target }
    else (if row_names row target then with_none row else row)

abbrev pub row_wrote : (volume grain : ℕ) → Row → Row
row_wrote volume grain row = if row_names row volume then record row { same = slice_set row.same grain false } else row

abbrev pub row_left : ℕ → List Bool → Row → Row
row_left target held row =
    if row_names row target then record row { same = grains_with (λ g. has row.same g && has held g) (length row.same) } else row

abbrev pub row_cut : ℕ → Row → Row
row_cut target row = if row_names row target && not (row.into == target) then with_none row else row

-- ---- what it does to all rows

-- The row of a mapping that is followed from this trigger on, if it isn't followed yet.
abbrev pub with_new : (map source target : ℕ) → Option ℕ → List Row → List Row
with_new m source target None rows = rows
with_new m source target (Some grains) rows =
    if list_any (is_of m) rows then rows
    else rows ++ record { map = m; source = source; target = target; into = target; same = replicate grains true } ∷ []

abbrev pub after_note : List Row → Note → List Row
after_note rows (Began m source target followed) = with_new m source target followed (map (row_began source target) rows)
after_note rows (Wrote volume grain) = map (row_wrote volume grain) rows
after_note rows (Left target held) = map (row_left target held) rows
after_note rows (Cut target) = map (row_cut target) rows
after_note rows (Forgotten m) = filter (λ row. not (is_of m row)) rows

-- ---- what it tells

abbrev pub row_restart : Option Row → List Bool
row_restart None = []
row_restart (Some row) = row.same

-- What a mapping that starts again needn't copy; no grains where it isn't followed.
abbrev pub restart_in : ℕ → List Row → List Bool
restart_in m rows = row_restart (find (is_of m) rows)
