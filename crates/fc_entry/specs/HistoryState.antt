-- The history as contracts see it.
use Rattle.std.specs.Prelude.{ℕ, List, [], ◌∷◌, ◌++◌, length, position, cond, is_some, unwrap_or, Option}
use Rattle.std.specs.Str.{bytes_eq}
use Rattle.fc_entry.specs.declared.entry.Entry.{Entry}

-- the names of actors, by number, and the entries in order of number
pub record HistoryState : Type 0 where
  pub actors : List (List ℕ)
  pub entries : List Entry

-- the place of a name among the actors' names, if it has one
abbrev pub place_of_name : List (List ℕ) → List ℕ → Option ℕ
place_of_name names name = position (λ known. bytes_eq known name) names

-- the number of an actor with this name: the one that it has, or the next
abbrev pub number_of_actor : List (List ℕ) → List ℕ → ℕ
number_of_actor names name = unwrap_or (place_of_name names name) (length names)

-- the actors' names with this one among them
abbrev pub with_actor : List (List ℕ) → List ℕ → List (List ℕ)
with_actor names name = cond (is_some (place_of_name names name)) names (names ++ name ∷ [])
