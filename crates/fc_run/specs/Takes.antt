-- The calls of `take` that a session makes. A source that tells which of its coming calls fail tells with it how many
-- were made: their numbers fall by one with each.
use Rattle.std.specs.Prelude.{◌≡◌, ◌≢◌, ℕ, List, [], ◌∷◌, take, Result, Ok, Err}
use Rattle.fc_base.specs.declared.outcome.Failed.{Failed}
use Rattle.fc_io.specs.Source.{SourceState, AfterTake}

-- what a call gave: the first bytes of its buffer, or nothing where it failed
abbrev pub piece_of : Result ℕ Failed → List ℕ → List ℕ
piece_of (Ok n) out = take n out
piece_of (Err failed) out = []

-- one call gave this piece
pub record TookOnce (before : SourceState) (piece : List ℕ) (after : SourceState) : Type 0 where
  pub answer : Result ℕ Failed
  pub out : List ℕ
  pub call : AfterTake before answer out after
  pub piece_is : piece ≡ piece_of answer out

-- calls, one after the other, gave these pieces
abbrev pub Took : SourceState → List (List ℕ) → SourceState → Type 0
Took before [] after = after ≡ before
Took before (piece ∷ pieces) after = (then : SourceState) × TookOnce before piece then × Took then pieces after

-- no piece but the last is empty
abbrev pub OnlyLastEmpty : List (List ℕ) → Type 0
OnlyLastEmpty [] = Unit {0}
OnlyLastEmpty (piece ∷ []) = Unit {0}
OnlyLastEmpty (piece ∷ next ∷ pieces) = (piece ≢ []) × OnlyLastEmpty (next ∷ pieces)

-- each call but the last gave a byte or more
pub record EachGave (before after : SourceState) : Type 0 where
  pub pieces : List (List ℕ)
  pub took : Took before pieces after
  pub some : OnlyLastEmpty pieces
