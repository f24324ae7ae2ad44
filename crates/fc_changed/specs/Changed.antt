-- The restart set, over the list of all that was noted.
use Rattle.std.specs.Prelude.{ℕ, Bool, false, not, ◌&&◌, ◌==◌, if◌then◌else◌, List, [], ◌∷◌, Option, Some, None, is_some, find, reverse}
use Rattle.std.specs.List.{list_any}
use Rattle.std.specs.Option.{option_and_then}
use Rattle.fc_changed.specs.Notes.{Note, has, grains_with, joins, names}
use Rattle.fc_changed.specs.Notes.Note.{Began, Wrote, Left, Cut, Forgotten}

-- ---- parts of the list

-- the notes behind the last one that passes; none where no note passes
abbrev pub behind_last : (Note → Bool) → List Note → List Note
behind_last passes [] = []
behind_last passes (note ∷ notes) =
    if list_any passes notes then behind_last passes notes else (if passes note then notes else [])

-- the last note that passes
abbrev pub last : (Note → Bool) → List Note → Option Note
last passes notes = find passes (reverse notes)

abbrev pub follows : ℕ → Note → Bool
follows m (Began map source target followed) = (m == map) && is_some followed
follows m note = false

abbrev pub forgets : ℕ → Note → Bool
forgets m (Forgotten map) = m == map
forgets m note = false

-- The notes from the one on from which the mapping is followed: its first trigger that no forgetting stands behind. None,
-- where it isn't followed.
abbrev pub story : ℕ → List Note → List Note
story m [] = []
story m (note ∷ notes) =
    if list_any (forgets m) notes then story m notes else (if follows m note then note ∷ notes else story m notes)

-- ---- since the last trigger that joined two volumes, in either direction

abbrev pub joins_them : (a b : ℕ) → Note → Bool
joins_them a b (Began map source target followed) = joins a b source target
joins_them a b note = false

abbrev pub target_of : Note → Option ℕ
target_of (Began map source target followed) = Some target
target_of note = None

-- whether that trigger's target was this volume
abbrev pub is_volume : Option ℕ → ℕ → Bool
is_volume None volume = false
is_volume (Some target) volume = target == volume

abbrev pub is_last_target : (a b : ℕ) → List Note → ℕ → Bool
is_last_target a b notes volume = is_volume (option_and_then target_of (last (joins_them a b) notes)) volume

-- Whether a note tells that the two volumes may differ at the grain: one of them was written there; it became the target of
-- another; a copy to it left that didn't hold the grain; or it was cut, but not by the copy of the last trigger, whose grains
-- are told as it leaves.
abbrev pub differs : (a b : ℕ) → (ℕ → Bool) → ℕ → Note → Bool
differs a b own g (Began map source target followed) = names a b target && not (joins a b source target)
differs a b own g (Wrote volume grain) = names a b volume && (g == grain)
differs a b own g (Left target held) = names a b target && not (has held g)
differs a b own g (Cut target) = names a b target && not (own target)
differs a b own g (Forgotten map) = false

abbrev pub is_same : (a b : ℕ) → List Note → ℕ → Bool
is_same a b notes g = not (list_any (differs a b (is_last_target a b notes) g) (behind_last (joins_them a b) notes))

-- ---- the restart set

-- Of a mapping from a to b with n grains: those at which nothing tells that both may differ.
abbrev pub restart_told : List Note → List Bool
restart_told (Began m a b (Some n) ∷ notes) = grains_with (is_same a b (Began m a b (Some n) ∷ notes)) n
restart_told notes = []

-- What a mapping that starts again needn't copy, after all these notes; no grains where it isn't followed.
abbrev pub restart_set : (m : ℕ) → List Note → List Bool
restart_set m notes = restart_told (story m notes)
