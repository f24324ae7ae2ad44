-- How far a session has come.
use Rattle.std.specs.Prelude.{◌≡◌, ◌≤◌, ◌⊎◌, ℕ, List, ◌++◌, length, Result, Ok, Err}
use Rattle.fc_entry.specs.declared.stop.Stop.{Stop}
use Rattle.fc_entry.specs.declared.stop.Stop.TheVariants.{LogFull, NoMemory}
use Rattle.fc_entry.specs.HistoryState.{HistoryState}
use Rattle.fc_entry.specs.Lines.{lined, ended_lines}
use Rattle.fc_run.specs.Input.{OfFirst}
use Rattle.fc_run.specs.Runs.{Runs}

-- Every line that ended in these bytes was answered, and the line at hand is the one that hasn't ended.
pub record Progress (runs : Runs) (bytes line : List ℕ) (history : HistoryState) : Type 0 where
  pub whole : runs.Whole (ended_lines bytes) history
  pub unended : line ≡ (lined bytes).unended

-- Answering these lines stopped at one of them.
abbrev pub StopsIn : Stop → Runs → List (List ℕ) → HistoryState → Type 0
StopsIn LogFull runs lines history = OfFirst lines (λ first. runs.Full first history) × (length history.entries ≡ 262144)
StopsIn NoMemory runs lines history = OfFirst lines (λ first. runs.Whole first history ⊎ runs.Front first history)

-- Every one of these lines is answered, or answering stopped at one.
abbrev pub LinesEnd : {A : Type 0} → Result A Stop → Runs → List (List ℕ) → HistoryState → Type 0
LinesEnd (Ok _) runs lines history = runs.Whole lines history
LinesEnd (Err stop) runs lines history = StopsIn stop runs lines history

-- After bytes were fed: progress, or a stop.
abbrev pub Fed : {A : Type 0} → Result A Stop → Runs → List ℕ → List ℕ → HistoryState → Type 0
Fed (Ok _) runs bytes line history = Progress runs bytes line history
Fed (Err stop) runs bytes line history = StopsIn stop runs (ended_lines bytes) history

-- More bytes can be fed to whoever answers: by what may have stood before the first line there is such progress, and the history
-- has no more entries than it may.
pub record CanFeed {Start : Type 0} (runs : Start → Runs) (line : List ℕ) (history : HistoryState) : Type 0 where
  pub start : Start
  pub bytes : List ℕ
  pub progress : Progress (runs start) bytes line history
  pub room : length history.entries ≤ 262144

-- A piece was fed, whatever progress there was.
abbrev pub Feeds : {Start : Type 0} {A : Type 0} → Result A Stop → (Start → Runs) → (Start → Runs) → List ℕ → List ℕ → List ℕ → HistoryState → HistoryState → Type 0
Feeds {Start} result before after piece line rest old new =
    (start : Start) (bytes : List ℕ) → Progress (before start) bytes line old → Fed result (after start) (bytes ++ piece) rest new
