-- The law: the rows say of each mapping what its restart set is, over all that was ever noted.
use Rattle.std.specs.Prelude.{◌≡◌, ℕ, List, [], fold}
use Rattle.fc_changed.specs.Notes.{Note}
use Rattle.fc_changed.specs.Row.{Row, after_note, restart_in}
use Rattle.fc_changed.specs.Changed.{restart_set}

-- the rows after all these notes
abbrev pub rows_of : List Note → List Row
rows_of notes = fold after_note [] notes

-- It holds of every list of notes.
abbrev pub RestartLaw : Type 0
RestartLaw = (notes : List Note) (m : ℕ) → restart_in m (rows_of notes) ≡ restart_set m notes
