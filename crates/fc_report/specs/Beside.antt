-- The headings and the fields of one object, a line for each.
use Rattle.std.specs.Prelude.{ℕ, List, [], ◌∷◌, ◌++◌}

abbrev pub beside : ℕ → List (List ℕ) → List (List ℕ) → List (List ℕ)
beside delim [] fields = []
beside delim (heading ∷ headings) [] = []
beside delim (heading ∷ headings) (field ∷ fields) = (heading ++ delim ∷ field) ∷ beside delim headings fields
