-- One call of the program, from outside: how it ended, what its source, its sink and its disks were before it and are after
-- it, and the history that it leaves. Before it the history is empty.
use Rattle.std.specs.Prelude.{List, []}
use Rattle.fc_call.specs.declared.status.Status.{Status}
use Rattle.fc_call.specs.declared.status.Status.TheVariants as status
use Rattle.fc_entry.specs.HistoryState.{HistoryState}
use Rattle.fc_io.specs.Sink.{SinkState}
use Rattle.fc_io.specs.Source.{SourceState}
use Rattle.fc_mdisk.specs.Disk.{DiskState}
use Rattle.fc_run.specs.Headline.{Session}
use Rattle.fc_run.specs.declared.ended.Ended.{Ended}
use Rattle.fc_run.specs.declared.ended.Ended.TheVariants as ended
use Rattle.fc_run.specs.declared.form.Form.{Form}

pub record Call : Type 0 where
  pub status : Status
  pub source : SourceState
  pub source' : SourceState
  pub sink : SinkState
  pub sink' : SinkState
  pub disks : List DiskState
  pub disks' : List DiskState
  pub history : HistoryState

-- A history of nobody and nothing.
abbrev pub empty : HistoryState
empty = record { actors = []; entries = [] }

-- The status of a call whose session ended so.
abbrev pub status_of : Ended → Status
status_of ended.Done = status.Done
status_of ended.Unended = status.Unended
status_of ended.ReadFault = status.ReadFault
status_of ended.TooLong = status.TooLong
status_of ended.LogFull = status.LogFull
status_of ended.WriteFault = status.WriteFault
status_of ended.NoMemory = status.NoMemory

-- The session of a call, which ended so, read this source and wrote in this form.
abbrev pub session_of : Ended → Form → SourceState → SourceState → Call → Session
session_of ended form source source' call = record {
  ended = ended;
  form = form;
  source = source;
  source' = source';
  sink = call.sink;
  sink' = call.sink';
  history = call.history;
}
