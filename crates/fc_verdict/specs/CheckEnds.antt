-- How a call ends that checks a trace, alone or with a session.
use Rattle.std.specs.Prelude.{◌≡◌, ◌⊎◌, List, ◌++◌, ℕ, codes, decimal, Result, Ok, Err}
use Rattle.fc_base.specs.Count.{HasRisen}
use Rattle.fc_call.specs.Call.{Call, empty}
use Rattle.fc_call.specs.declared.status.Status.{Status}
use Rattle.fc_call.specs.declared.status.Status.TheVariants as status
use Rattle.fc_check.specs.Checked.{IsChecked}
use Rattle.fc_check.specs.declared.verdict.CheckStop.{CheckStop}
use Rattle.fc_check.specs.declared.verdict.CheckStop.TheVariants as stop
use Rattle.fc_check.specs.declared.verdict.Verdict.{Verdict}
use Rattle.fc_check.specs.declared.verdict.Verdict.TheVariants.{Yes, No, Malformed}
use Rattle.fc_io.specs.Sink.{SinkState, AddsFront, held_with}

-- The line of a verdict.
abbrev pub verdict_line : Verdict → List ℕ
verdict_line (Yes count) = codes "yes " ++ decimal count ++ codes "\n"
verdict_line (No number) = codes "no " ++ decimal number ++ codes "\n"
verdict_line (Malformed place) = codes "malformed " ++ decimal place ++ codes "\n"

-- The status of a call that has written the line of its verdict.
abbrev pub status_said : Verdict → Status
status_said (Yes count) = status.Done
status_said (No number) = status.Refuted
status_said (Malformed place) = status.Refuted

-- The status of a call that says nothing of its trace.
abbrev pub status_stopped : CheckStop → Status
status_stopped stop.ReadFault = status.ReadFault
status_stopped stop.NoMemory = status.NoMemory
status_stopped stop.LogFull = status.LogFull
status_stopped stop.TooLong = status.TooLong

-- The sink got this line and nothing else, and all that it holds was sent on.
abbrev pub GotLine : List ℕ → SinkState → SinkState → Type 0
GotLine line before after = (after.held ≡ held_with before.held line) × (after.sent ≡ after.held)

-- A call of the sink failed, and it got a front of the line.
abbrev pub GotFrontOf : List ℕ → SinkState → SinkState → Type 0
GotFrontOf line before after = HasRisen before.faults after.faults × AddsFront before.held line after.held

-- By the answer: the status, and what was written.
abbrev pub IsTold : Result Verdict CheckStop → Status → SinkState → SinkState → Type 0
-- the line of the verdict; or a call of the sink failed
IsTold (Ok verdict) is before after =
    ((is ≡ status_said verdict) × GotLine (verdict_line verdict) before after)
    ⊎ ((is ≡ status.WriteFault) × GotFrontOf (verdict_line verdict) before after)
-- nothing
IsTold (Err of) is before after = (is ≡ status_stopped of) × (after ≡ before)

-- A check: nothing is told in the history, and the disks are as they were.
pub record CheckEnds (call : Call) : Type 0 where
  pub history : call.history ≡ empty
  pub disks : call.disks' ≡ call.disks
  -- what is said of the trace, and of the session behind it, by the bytes that the source gave
  pub answer : Result Verdict CheckStop
  pub checked : IsChecked answer call.source call.source'
  -- the status, and what was written
  pub told : IsTold answer call.status call.sink call.sink'
