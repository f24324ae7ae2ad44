-- What a session has put so far, and how it goes on.
use Rattle.std.specs.Prelude.{◌≡◌, ◌⊎◌, ℕ, ◌≤◌, Bool, true, false, List, [], length, take, drop}
use Rattle.std.specs.Bool.{OnTrue, OnFalse}
use Rattle.std.specs.List.{flat_map}
use Rattle.fc_base.specs.Count.{HasRisen}
use Rattle.fc_entry.specs.HistoryState.{HistoryState}
use Rattle.fc_entry.specs.Text.{entry_text, history_text}
use Rattle.fc_io.specs.Sink.{SinkState, AddsFront, held_with}
use Rattle.fc_trace.specs.Trace.{header_text, traced_text}
use Rattle.fc_run.specs.Summary.{summary_text}
use Rattle.fc_run.specs.declared.form.Form.{Form}
use Rattle.fc_run.specs.declared.form.Form.TheVariants as form
use Rattle.fc_run.specs.declared.output.Output.{Output}

-- the first line, of a trace alone; and what stands behind it
abbrev pub first_line : Form → List ℕ
first_line form.Text = []
first_line (form.Trace header) = header_text header.grain header.lanes
first_line form.Summary = []

abbrev pub behind_first_line : Form → HistoryState → List ℕ
behind_first_line form.Text history = history_text history
behind_first_line (form.Trace header) history = flat_map (traced_text history.actors) history.entries
behind_first_line form.Summary history = summary_text history

-- behind the first line the text of the first entries, so many; a summary isn't put before the end
abbrev pub text_so_far : Form → ℕ → HistoryState → List ℕ
text_so_far form.Text put history = flat_map (entry_text history.actors) (take put history.entries)
text_so_far (form.Trace header) put history = flat_map (traced_text history.actors) (take put history.entries)
text_so_far form.Summary put history = []

-- and of the others; a summary is put whole
abbrev pub text_left : Form → ℕ → HistoryState → List ℕ
text_left form.Text put history = flat_map (entry_text history.actors) (drop put history.entries)
text_left (form.Trace header) put history = flat_map (traced_text history.actors) (drop put history.entries)
text_left form.Summary put history = summary_text history

-- whether each answer is written before more is taken
abbrev pub tells_each : Form → Bool
tells_each form.Summary = false
tells_each _ = true

-- of these no entry waits: all are put, and where one was put now, all that the sink holds was sent on
abbrev pub IsOut : Output → Output → HistoryState → SinkState → Type 0
IsOut old new history sink =
    (tells_each new.form ≡ true → new.put ≡ length history.entries) × ((old.put ≡ new.put) ⊎ (sink.sent ≡ sink.held))

-- the sink got this text, and no call of it failed
pub record HasGot (before : SinkState) (text : List ℕ) (now : SinkState) : Type 0 where
  pub held : now.held ≡ held_with before.held text
  pub faults : before.faults ≤ now.faults

-- a call of the sink failed: it got a front of this text
pub record HasFailed (before : SinkState) (text : List ℕ) (now : SinkState) : Type 0 where
  pub front : AddsFront before.held text now.held
  pub risen : HasRisen before.faults now.faults

-- what is put so far stands in the sink, behind the first line; or a call of it failed
pub record IsPut (before : SinkState) (form : Form) (put : ℕ) (history : HistoryState) (failed : Bool) (now : SinkState) : Type 0 where
  pub got : OnFalse failed (HasGot before (text_so_far form put history) now)
  pub cut : OnTrue failed (HasFailed before (behind_first_line form history) now)

-- the whole text was put and sent on; or a call of the sink failed
pub record IsWritten (before : SinkState) (text : List ℕ) (failed : Bool) (now : SinkState) : Type 0 where
  pub got : OnFalse failed (HasGot before text now)
  pub sent : OnFalse failed (now.sent ≡ now.held)
  pub cut : OnTrue failed (HasFailed before text now)
