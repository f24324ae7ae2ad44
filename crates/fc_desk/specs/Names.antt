-- Names of new objects.
use Rattle.std.specs.Prelude.{ℕ, List, ◌++◌, Option, Some, None, decimal}

-- The name that was given, else the front and the id.
abbrev pub name_or : Option (List ℕ) → List ℕ → ℕ → List ℕ
name_or (Some name) front id = name
name_or None front id = front ++ decimal id
