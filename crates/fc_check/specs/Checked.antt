-- What each answer of a check says of the bytes that the source gave.
use Rattle.std.specs.Prelude.{◌≡◌, ◌⊎◌, ℕ, ◌<◌, List, [], length, Result, Ok, Err}
use Rattle.fc_base.specs.Count.{HasRisen}
use Rattle.fc_io.specs.Source.{SourceState}
use Rattle.fc_run.specs.Input.{IsAtEnd}
use Rattle.fc_check.specs.Input.{WereTaken}
use Rattle.fc_check.specs.Traces.{BeginsInput, IsFull}
use Rattle.fc_check.specs.Verdict.{IsSaid}
use Rattle.fc_check.specs.declared.verdict.Verdict.{Verdict}
use Rattle.fc_check.specs.declared.verdict.Verdict.TheVariants.{Yes, No, Malformed}
use Rattle.fc_check.specs.declared.verdict.CheckStop.{CheckStop}
use Rattle.fc_check.specs.declared.verdict.CheckStop.TheVariants.{ReadFault, NoMemory, LogFull, TooLong}

-- the source gave no more, and is at its end
abbrev pub IsAll : List ℕ → SourceState → Type 0
IsAll past after = IsAtEnd after × (past ≡ [])

-- by the bytes up to the greatest input, and the one past it, where it came
abbrev pub Answers : Result Verdict CheckStop → SourceState → List ℕ → List ℕ → SourceState → Type 0
-- all bytes are a trace, and a session behind it, if there is one, judged so
Answers (Ok (Yes count)) before bytes past after = IsSaid (Yes count) bytes × IsAll past after
Answers (Ok (No number)) before bytes past after = IsSaid (No number) bytes × IsAll past after
-- at one of the bytes, or at the end of all
Answers (Ok (Malformed place)) before bytes past after = IsSaid (Malformed place) bytes × ((place < length bytes) ⊎ IsAll past after)
-- a byte that begins no session stands behind the last entry that fits
Answers (Err LogFull) before bytes past after = IsFull bytes
-- the bytes begin an input; then a call failed, or the byte past the greatest input came
Answers (Err ReadFault) before bytes past after = BeginsInput bytes × HasRisen before.faults after.faults × (past ≡ [])
Answers (Err TooLong) before bytes past after = BeginsInput bytes × (length past ≡ 1)
-- some bytes were taken
Answers (Err NoMemory) before bytes past after = Unit {0}

-- some bytes were taken, and the answer goes by them
pub record IsChecked (answer : Result Verdict CheckStop) (before after : SourceState) : Type 0 where
  pub bytes : List ℕ
  pub past : List ℕ
  pub taken : WereTaken before bytes past after
  pub answers : Answers answer before bytes past after
