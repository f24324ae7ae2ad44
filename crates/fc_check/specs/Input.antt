-- How the input was taken.
use Rattle.std.specs.Prelude.{◌≡◌, ◌≢◌, ◌⊎◌, ℕ, ◌≤◌, List, [], ◌++◌, length, Option, Some, None, Result, Ok, Err}
use Rattle.fc_base.specs.Count.{HasRisen}
use Rattle.fc_base.specs.declared.outcome.NoMemory.{NoMemory}
use Rattle.fc_io.specs.Source.{SourceState}
use Rattle.fc_run.specs.Input.{Gave, IsAtEnd, input_limit}
use Rattle.fc_run.specs.Takes.{EachGave, TookOnce}
use Rattle.fc_run.specs.Taking.{SoFarGave}
use Rattle.fc_check.specs.declared.input.InputEnd.{InputEnd}
use Rattle.fc_check.specs.declared.input.InputEnd.TheVariants.{Over, Fault, TooLong}

-- Calls of the source, of which each but the last gave a byte or more, gave these bytes, at most 67,108,864; where they gave one more,
-- it was the last.
pub record WereTaken (before : SourceState) (bytes past : List ℕ) (after : SourceState) : Type 0 where
  pub gave : Gave before (bytes ++ past) after
  pub takes : EachGave before after
  pub within : length bytes ≤ input_limit
  pub one : (past ≡ []) ⊎ ((length past ≡ 1) × (length bytes ≡ input_limit))

-- how taking them ended: the source is at its end, a call of it failed, or the byte past the greatest input came
abbrev pub EndsTaking : InputEnd → SourceState → List ℕ → SourceState → Type 0
EndsTaking Over before past after = IsAtEnd after × (past ≡ [])
EndsTaking Fault before past after = HasRisen before.faults after.faults × (past ≡ [])
EndsTaking TooLong before past after = length past ≡ 1

-- ---- call by call

-- one call gave this piece
pub record TookPiece (most : ℕ) (before : SourceState) (piece : List ℕ) (after : SourceState) : Type 0 where
  pub gave : Gave before piece after
  pub once : TookOnce before piece after
  pub fits : length piece ≤ most

-- a piece was put behind the bytes; or it was the last call; or no memory was had for the piece
abbrev pub AfterPiece : Result (Option InputEnd) NoMemory → ℕ → SourceState → List ℕ → List ℕ → SourceState → Type 0
AfterPiece (Ok None) most before old new after = (piece : List ℕ) × (piece ≢ []) × TookPiece most before piece after × (new ≡ old ++ piece)
AfterPiece (Ok (Some end)) most before old new after = TookPiece most before [] after × EndsTaking end before [] after × (new ≡ old)
AfterPiece (Err refused) most before old new after = (piece : List ℕ) × TookPiece most before piece after

-- the call for the byte past the greatest input
pub record AfterPast (end : InputEnd) (before after : SourceState) : Type 0 where
  pub past : List ℕ
  pub took : TookPiece 1 before past after
  pub ends : EndsTaking end before past after

-- so far
pub record TakenSoFar (before : SourceState) (bytes : List ℕ) (now : SourceState) : Type 0 where
  pub gave : Gave before bytes now
  pub takes : SoFarGave before now
  pub within : length bytes ≤ input_limit
  pub faults : before.faults ≤ now.faults

-- all were taken, and taking them ended so
pub record TakenTo (end : InputEnd) (before : SourceState) (bytes : List ℕ) (after : SourceState) : Type 0 where
  pub past : List ℕ
  pub taken : WereTaken before bytes past after
  pub ends : EndsTaking end before past after

-- some were taken
pub record TakenSome (before after : SourceState) : Type 0 where
  pub bytes : List ℕ
  pub past : List ℕ
  pub taken : WereTaken before bytes past after
