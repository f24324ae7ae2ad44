-- How reading a session ends.
use Rattle.std.specs.Prelude.{◌≡◌, ℕ, ◌<◌, ◌≤◌, Bool, true, false, cond, List, [], ◌∷◌, ◌++◌, length}
use Rattle.fc_base.specs.Count.{HasRisen}
use Rattle.fc_entry.specs.declared.stop.Stop.TheVariants.{LogFull, NoMemory}
use Rattle.fc_entry.specs.HistoryState.{HistoryState}
use Rattle.fc_entry.specs.Lines.{ended_lines, all_lines}
use Rattle.fc_io.specs.Source.{SourceState}
use Rattle.fc_run.specs.Input.{AreLines, Gave, IsAtEnd, input_limit}
use Rattle.fc_run.specs.Progress.{Progress, StopsIn}
use Rattle.fc_run.specs.Runs.{Runs}
use Rattle.fc_run.specs.Takes.{EachGave}
use Rattle.fc_run.specs.Taking.{SoFarGave}
use Rattle.fc_run.specs.declared.ended.Ended.{Ended}
use Rattle.fc_run.specs.declared.ended.Ended.TheVariants as ended
use Rattle.fc_run.specs.declared.reading.Turn.{Turn}
use Rattle.fc_run.specs.declared.reading.Turn.TheVariants as turn
use Rattle.fc_run.specs.declared.reading.Ending.{Ending}
use Rattle.fc_run.specs.declared.reading.Ending.TheVariants as ending

-- a piece was taken and fed
pub record FedPiece (n : ℕ) (before after : SourceState) (bytes : List ℕ) (Then : List ℕ → Type 0) : Type 0 where
  pub piece : List ℕ
  pub some : 0 < n
  pub counted : length piece ≡ n
  pub gave : Gave before piece after
  pub fed : Then (bytes ++ piece)

-- one turn of reading: a piece was taken and its lines answered, up to a stop; or nothing was taken, at the end or by
-- a fault
abbrev pub Turned : Turn → ℕ → SourceState → SourceState → Runs → List ℕ → List ℕ → HistoryState → Type 0
Turned (turn.More n) most before after runs bytes line history =
    (n ≤ most) × FedPiece n before after bytes (λ all. Progress runs all line history)
Turned turn.End most before after runs bytes line history =
    IsAtEnd after × Gave before [] after × Progress runs bytes line history
Turned turn.Fault most before after runs bytes line history =
    HasRisen before.faults after.faults × Gave before [] after × Progress runs bytes line history
Turned (turn.Stopped n stop) most before after runs bytes line history =
    (n ≤ most) × FedPiece n before after bytes (λ all. StopsIn stop runs (ended_lines all) history)

-- some bytes were taken, and no more than there was room for
abbrev pub TurnWithin : Turn → ℕ → Type 0
TurnWithin (turn.More n) most = (0 < n) × (n ≤ most)
TurnWithin turn.End most = Unit {0}
TurnWithin turn.Fault most = Unit {0}
TurnWithin (turn.Stopped n stop) most = (0 < n) × (n ≤ most)

-- how reading ended after these bytes: at the end of input; by a fault; with the byte past the limit taken; as an answer
-- couldn't be written; or by a stop
abbrev pub EndsReading : Ending → SourceState → SourceState → Runs → List ℕ → List ℕ → HistoryState → Type 0
EndsReading ending.End before after runs bytes line history =
    IsAtEnd after × (length bytes ≤ input_limit) × Progress runs bytes line history
-- what is open is asked at the end of the session
EndsReading ending.Unended before after runs bytes line history = ⊥
EndsReading ending.ReadFault before after runs bytes line history =
    HasRisen before.faults after.faults × (length bytes ≤ input_limit) × Progress runs bytes line history
EndsReading ending.TooLong before after runs bytes line history =
    (kept : List ℕ) × (past : ℕ)
    × (bytes ≡ kept ++ past ∷ [])
    × (length kept ≡ input_limit)
    × Progress runs kept line history
EndsReading ending.WriteFault before after runs bytes line history =
    (length bytes ≤ input_limit) × Progress runs bytes line history
EndsReading (ending.Stopped stop) before after runs bytes line history =
    (length bytes ≤ input_limit) × StopsIn stop runs (ended_lines bytes) history

-- the bytes that were taken, and how reading ended after them
pub record ReadTo (ended : Ending) (before after : SourceState) (runs : Runs) (line : List ℕ) (history : HistoryState) : Type 0 where
  pub bytes : List ℕ
  pub gave : Gave before bytes after
  pub takes : EachGave before after
  pub ends : EndsReading ended before after runs bytes line history

-- reading goes on after so many bytes
pub record SoFar (before now : SourceState) (runs : Runs) (line : List ℕ) (history : HistoryState) (taken : ℕ) : Type 0 where
  pub bytes : List ℕ
  pub gave : Gave before bytes now
  pub takes : SoFarGave before now
  pub counted : length bytes ≡ taken
  pub faults : before.faults ≤ now.faults
  pub progress : Progress runs bytes line history

-- whether the sink failed before reading came to an end
abbrev pub is_write_fault : Ending → Bool
is_write_fault ending.WriteFault = true
is_write_fault _ = false

-- what asking for the byte past the limit gives: the end, that byte, or a fault
abbrev pub PastLimit : Ending → SourceState → SourceState → Type 0
PastLimit ending.End before after = IsAtEnd after × Gave before [] after
PastLimit ending.TooLong before after = (past : ℕ) × Gave before (past ∷ []) after
PastLimit ending.ReadFault before after = HasRisen before.faults after.faults × Gave before [] after
PastLimit ending.Unended before after = ⊥
PastLimit ending.WriteFault before after = ⊥
PastLimit (ending.Stopped _) before after = ⊥

-- at the end of input all lines are answered, inside something open or not
abbrev pub EndsInput : Bool → SourceState → Runs → List ℕ → HistoryState → Type 0
EndsInput is_open after runs bytes history =
    IsAtEnd after
    × (length bytes ≤ input_limit)
    × runs.Whole (all_lines bytes) history
    × (runs.is_open (all_lines bytes) ≡ is_open)

-- how a session ended after these bytes, the line that the end of input ends answered too
abbrev pub EndsSession : Ending → SourceState → SourceState → Runs → List ℕ → HistoryState → Type 0
EndsSession ending.End before after runs bytes history = EndsInput false after runs bytes history
EndsSession ending.Unended before after runs bytes history = EndsInput true after runs bytes history
EndsSession ending.ReadFault before after runs bytes history =
    HasRisen before.faults after.faults × (length bytes ≤ input_limit) × runs.Whole (ended_lines bytes) history
EndsSession ending.TooLong before after runs bytes history =
    (kept : List ℕ) × (past : ℕ)
    × (bytes ≡ kept ++ past ∷ [])
    × (length kept ≡ input_limit)
    × runs.Whole (ended_lines kept) history
EndsSession ending.WriteFault before after runs bytes history =
    (length bytes ≤ input_limit) × runs.Whole (ended_lines bytes) history
EndsSession (ending.Stopped stop) before after runs bytes history =
    (length bytes ≤ input_limit)
    × ((lines : List (List ℕ)) × AreLines after bytes lines × StopsIn stop runs lines history)

-- the bytes that were taken, and how the session ended after them
pub record SessionRead (ended : Ending) (before after : SourceState) (runs : Runs) (history : HistoryState) : Type 0 where
  pub bytes : List ℕ
  pub gave : Gave before bytes after
  pub takes : EachGave before after
  pub ends : EndsSession ended before after runs bytes history

-- how a session ended, or that its text couldn't be written
abbrev pub written_or : Ended → Bool → Ended
written_or done failed = cond failed ended.WriteFault done

-- how a session ended of which reading ended so, its text written or not
abbrev pub ended_for : Ending → Bool → Ended
ended_for ending.End failed = written_or ended.Done failed
ended_for ending.Unended failed = written_or ended.Unended failed
ended_for ending.ReadFault failed = written_or ended.ReadFault failed
ended_for ending.TooLong failed = written_or ended.TooLong failed
ended_for ending.WriteFault failed = ended.WriteFault
ended_for (ending.Stopped LogFull) failed = written_or ended.LogFull failed
ended_for (ending.Stopped NoMemory) failed = ended.NoMemory
