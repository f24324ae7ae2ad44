-- What a list has where only some of what was to be added came.
use Rattle.std.specs.Prelude.{◌≡◌, List, ◌++◌}

-- The first of these items were added to the list, at its end.
pub record AddsFront {A : Type 0} (old all new : List A) : Type 0 where
  pub front : List A
  pub rest : List A
  pub all_are : all ≡ front ++ rest
  pub added : new ≡ old ++ front
