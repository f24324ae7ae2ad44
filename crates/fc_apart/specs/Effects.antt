-- The effects of a settling and of what is decided after it.
use Rattle.std.specs.Prelude.{◌≡◌, List, [], ◌∷◌, ◌++◌}
use Rattle.fc_base.specs.declared.request.Effect.{Effect}

-- One list of both; an empty one where the settling has none, since those decided are all there are.
abbrev pub IsJoined : List Effect → List Effect → List Effect → Type 0
IsJoined [] decided joined = joined ≡ []
IsJoined (effect ∷ effects) decided joined = joined ≡ (effect ∷ effects) ++ decided
