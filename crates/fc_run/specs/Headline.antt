-- What a session's bytes, its history and the written bytes have to do with one another, for each way to end.
use Rattle.std.specs.Prelude.{◌≡◌, ◌⊎◌, ℕ, ◌+◌, ◌≤◌, Bool, true, false, List, [], ◌∷◌, ◌++◌, length}
use Rattle.fc_base.specs.Count.{HasRisen}
use Rattle.fc_entry.specs.HistoryState.{HistoryState}
use Rattle.fc_entry.specs.Lines.{ended_lines, all_lines}
use Rattle.fc_io.specs.Sink.{SinkState, AddsFront, held_with}
use Rattle.fc_io.specs.Source.{SourceState}
use Rattle.fc_run.specs.Runs.{Runs}
use Rattle.fc_run.specs.Input.{Gave, IsAtEnd, OfFirstTaken, input_limit}
use Rattle.fc_run.specs.Summary.{form_text}
use Rattle.fc_run.specs.declared.ended.Ended.{Ended}
use Rattle.fc_run.specs.declared.ended.Ended.TheVariants as ended
use Rattle.fc_run.specs.declared.form.Form.{Form}

-- a session from outside: how it ended, what it was to write, its source and sink before and after it, and its history
pub record Session : Type 0 where
  pub ended : Ended
  pub form : Form
  pub source : SourceState
  pub source' : SourceState
  pub sink : SinkState
  pub sink' : SinkState
  pub history : HistoryState

-- the sink got the text of the history and nothing else, and all that it holds was sent on
abbrev pub GotText : Session → Type 0
GotText s = (s.sink'.held ≡ held_with s.sink.held (form_text s.form s.history)) × (s.sink'.sent ≡ s.sink'.held)

-- the sink got a front of the text
abbrev pub GotFront : Session → Type 0
GotFront s = AddsFront s.sink.held (form_text s.form s.history) s.sink'.held

-- the source is at its end, all lines are answered, inside something open or not, and the text is written
abbrev pub EndsAtEnd : Bool → Session → Runs → List ℕ → Type 0
EndsAtEnd is_open s runs bytes =
    IsAtEnd s.source'
    × (length bytes ≤ input_limit)
    × runs.Whole (all_lines bytes) s.history
    × (runs.is_open (all_lines bytes) ≡ is_open)
    × GotText s

-- what each way to end says of the bytes that were taken, of their lines, and of what was written
abbrev pub EndsAs : Ended → Session → Runs → List ℕ → Type 0
-- at the end of the source nothing is open
EndsAs ended.Done s runs bytes = EndsAtEnd false s runs bytes
-- at the end of the source something is open, which stays unanswered
EndsAs ended.Unended s runs bytes = EndsAtEnd true s runs bytes
-- a call of the source failed; the lines that had ended are answered, and the text is written
EndsAs ended.ReadFault s runs bytes =
    HasRisen s.source.faults s.source'.faults
    × (length bytes ≤ input_limit)
    × runs.Whole (ended_lines bytes) s.history
    × GotText s
-- the byte past the limit was taken; the lines that ended before it are answered, and the text is written
EndsAs ended.TooLong s runs bytes =
    (kept : List ℕ) × (past : ℕ)
    × (bytes ≡ kept ++ past ∷ [])
    × (length kept ≡ input_limit)
    × runs.Whole (ended_lines kept) s.history
    × GotText s
-- 262,144 entries answer some first lines, the last of which asks for one more; the text is written
EndsAs ended.LogFull s runs bytes =
    (length bytes ≤ input_limit)
    × OfFirstTaken s.source' bytes (λ first. runs.Full first s.history)
    × (length s.history.entries ≡ 262144)
    × GotText s
-- a call of the sink failed; some first lines are answered, and a front of the text is written
EndsAs ended.WriteFault s runs bytes =
    HasRisen s.sink.faults s.sink'.faults
    × (length bytes ≤ input_limit + 1)
    × OfFirstTaken s.source' bytes (λ first. runs.Whole first s.history ⊎ runs.Full first s.history)
    × GotFront s
-- memory was wanted; some first lines are answered, the last maybe in part, and a front of the text is written
EndsAs ended.NoMemory s runs bytes =
    (length bytes ≤ input_limit)
    × OfFirstTaken s.source' bytes (λ first. runs.Whole first s.history ⊎ runs.Front first s.history)
    × GotFront s

-- some bytes were taken, and the way to end says what came of them
pub record SessionEnds (session : Session) (runs : Runs) : Type 0 where
  pub bytes : List ℕ
  pub gave : Gave session.source bytes session.source'
  pub ends : EndsAs session.ended session runs bytes
