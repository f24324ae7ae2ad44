-- Calls of `take` while a session is read.
use Rattle.std.specs.Prelude.{◌≢◌, ℕ, List, [], ◌∷◌}
use Rattle.fc_io.specs.Source.{SourceState}
use Rattle.fc_run.specs.Takes.{TookOnce, Took}
use Rattle.fc_run.specs.declared.reading.Turn.{Turn}
use Rattle.fc_run.specs.declared.reading.Turn.TheVariants as turn

-- no piece is empty
abbrev pub AllSome : List (List ℕ) → Type 0
AllSome [] = Unit {0}
AllSome (piece ∷ pieces) = (piece ≢ []) × AllSome pieces

-- each call so far gave a byte or more
pub record SoFarGave (before now : SourceState) : Type 0 where
  pub pieces : List (List ℕ)
  pub took : Took before pieces now
  pub some : AllSome pieces

-- one call gave a byte or more
pub record GaveSome (before after : SourceState) : Type 0 where
  pub piece : List ℕ
  pub some : piece ≢ []
  pub once : TookOnce before piece after

-- one call was made
pub record GaveAny (before after : SourceState) : Type 0 where
  pub piece : List ℕ
  pub once : TookOnce before piece after

-- a turn makes one call, which gives a byte or more where bytes were taken
abbrev pub TurnGave : Turn → SourceState → SourceState → Type 0
TurnGave (turn.More _) before after = GaveSome before after
TurnGave (turn.Stopped _ _) before after = GaveSome before after
TurnGave turn.End before after = GaveAny before after
TurnGave turn.Fault before after = GaveAny before after
