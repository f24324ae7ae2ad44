-- How far a session came, by how it ended and why its lines were no longer answered; else the status of its call.
use Rattle.std.specs.Prelude.{ℕ, Option, Some, Result, Ok, Err}
use Rattle.fc_call.specs.Call.{status_of}
use Rattle.fc_call.specs.declared.status.Status.{Status}
use Rattle.fc_call.specs.declared.status.Status.TheVariants as status
use Rattle.fc_marks.specs.declared.error.NotedStop.{NotedStop}
use Rattle.fc_marks.specs.declared.error.NotedStop.TheVariants.{MetaFailed, MetaFull}
use Rattle.fc_run.specs.declared.ended.Ended.{Ended}
use Rattle.fc_run.specs.declared.ended.Ended.TheVariants as ended
use Rattle.fc_stopped.specs.declared.far.Far.{Far}
use Rattle.fc_stopped.specs.declared.far.Far.TheVariants.{ToEnd, ToCall, ToFull}
use Rattle.fc_recovery_text.specs.declared.state.Unwritten.{Unwritten}
use Rattle.fc_recovery_text.specs.declared.state.Unwritten.TheVariants.{Failed, NoMemory}

abbrev pub far_stopped : ℕ → Option NotedStop → Result Far Status
far_stopped call (Some MetaFailed) = Ok (ToCall call)
far_stopped call (Some MetaFull) = Ok ToFull
far_stopped call other = Err status.NoMemory

abbrev pub far_of : ℕ → Ended → Option NotedStop → Result Far Status
far_of call ended.Done stop = Ok ToEnd
far_of call ended.NoMemory stop = far_stopped call stop
far_of call other stop = Err (status_of other)

-- The status of a call whose state wasn't written whole.
abbrev pub status_unwritten : Unwritten → Status
status_unwritten Failed = status.WriteFault
status_unwritten NoMemory = status.NoMemory
