-- What a judge knows of a trace as far as it was read, and of its entries as far as a session asks for them.
use Rattle.std.specs.Prelude.{◌≡◌, ◌≢◌, ℕ, ◌+◌, ◌<◌, ◌≤◌, Bool, true, false, All, Contains, Option, Some, None, List, [], length, take, Result, Ok, Err}
use Rattle.fc_entry.specs.HistoryState.{HistoryState}
use Rattle.fc_check_answers.specs.Places.{Answers, AreAllPlaces}
use Rattle.fc_check_lines.specs.Bytes.{segments_in}
use Rattle.fc_base.specs.declared.size.GrainSize.{GrainSize}
use Rattle.fc_check_follow.specs.Ways.{Ways, pools_told}
use Rattle.fc_entry.specs.declared.entry.Entry.{Entry}
use Rattle.fc_entry.specs.declared.stop.Stop.{Stop}
use Rattle.fc_entry.specs.declared.stop.Stop.TheVariants.{LogFull, NoMemory}
use Rattle.fc_legal.specs.Legal.{AreSteps}
use Rattle.fc_legal.specs.Whole.{Whole, opened}
use Rattle.fc_trace.specs.declared.header.Header.{Header}
use Rattle.law_stands.specs.Names.{nameless}
use Rattle.fc_check.specs.Traces.{IsFull, session_line}
use Rattle.fc_check.specs.Verdict.{AreAllRight, AreLegal, IsFirstWrong, IsSaid, IsWrongAt, StandFirst}
use Rattle.fc_check.specs.declared.judge.Progress.{Progress}
use Rattle.fc_check.specs.declared.verdict.Verdict.{Verdict}
use Rattle.fc_check.specs.declared.verdict.Verdict.TheVariants.{Yes, No, Malformed}

-- these are all that may be told after the entries
pub record AreAllWays (grain : GrainSize) (start : Whole) (entries : List Entry) (ways : List Whole) : Type 0 where
  pub only : (w : Whole) → Contains ways w → AreSteps grain start entries w
  pub all : (w : Whole) → AreSteps grain start entries w → Contains ways w

-- all entries are right, and the ways are all that may be told after them
pub record AreRight (header : Header) (entries : List Entry) (ways : Ways) : Type 0 where
  pub grain : ways.grain ≡ header.grain
  pub counted : ways.entries ≡ length entries
  pub all : AreAllWays header.grain (nameless (opened (pools_told header.lanes))) entries ways.ways
  pub some : ways.ways ≢ []

-- by the first wrong entry, where there was one
abbrev pub IsFound : Option ℕ → Header → List Entry → Ways → Type 0
IsFound None header entries ways = AreRight header entries ways
IsFound (Some number) header entries ways = IsFirstWrong (AreLegal header) number entries

pub record IsProgress (header : Header) (progress : Progress) : Type 0 where
  pub names : length progress.history.actors ≤ length progress.history.entries
  pub room : length progress.history.entries ≤ 262144
  pub found : IsFound progress.wrong header progress.history.entries progress.candidates

-- ---- with a session

abbrev pub IsSessionLine : List ℕ → Type 0
IsSessionLine text = text ≡ session_line

-- each entry's actor has a name
abbrev pub HaveNames : HistoryState → Type 0
HaveNames history = All (λ (entry : Entry). entry.actor < length history.actors) history.entries

-- the first so many entries are the first of a run, and the places are all where the session may have come to behind them
pub record AnswerSoFar (header : Header) (history : HistoryState) (session : List ℕ) (number : ℕ) (answers : Answers) : Type 0 where
  pub grain : answers.grain ≡ header.grain
  pub counted : answers.entries ≡ number
  pub first : StandFirst header history.actors session (take number history.entries)
  pub all : AreAllPlaces header.grain (opened (pools_told header.lanes)) (segments_in session) history.actors (take number history.entries) answers.places

-- so do those up to the entry with this number; or they aren't the first of a run
abbrev pub Follows : Bool → Header → HistoryState → List ℕ → ℕ → Answers → Type 0
Follows true header history session number answers = AnswerSoFar header history session (number + 1) answers
Follows false header history session number answers = StandFirst header history.actors session (take (number + 1) history.entries) → ⊥

-- what is said of the entries with the session
abbrev pub IsSaidWith : Verdict → Header → HistoryState → List ℕ → Type 0
IsSaidWith (Yes count) header history session = AreAllRight count header history (Some session)
IsSaidWith (No number) header history session = IsWrongAt number header history (Some session)
IsSaidWith (Malformed place) header history session = ⊥

-- ---- at the end

-- what is said of the bytes, or why nothing is
abbrev pub IsJudged : Result Verdict Stop → List ℕ → Type 0
IsJudged (Ok verdict) bytes = IsSaid verdict bytes
IsJudged (Err LogFull) bytes = IsFull bytes
IsJudged (Err NoMemory) bytes = Unit {0}
