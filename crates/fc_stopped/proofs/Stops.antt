-- A call that ran a session over a noted store.
use Rattle.std.proofs.Common.{◌≡◌, ℕ, ◌≤◌, ◌++◌, List, [], inl, inr, length, subst, arith, Option, None, Ok, Err}
use Rattle.fc_base.specs.Count.{HasRisen}
use Rattle.fc_call.specs.Call.{Call}
use Rattle.fc_call.specs.declared.status.Status.{Status}
use Rattle.fc_entry.specs.HistoryState.{HistoryState}
use Rattle.fc_entry.specs.Text.{history_text}
use Rattle.fc_legal.specs.Added.{IsOf}
use Rattle.fc_legal.specs.Agenda.{Agenda}
use Rattle.fc_legal.specs.Whole.{Whole}
use Rattle.fc_marks.specs.declared.error.NotedStop.{NotedStop}
use Rattle.fc_mdisk.specs.Disk.{DiskState}
use Rattle.fc_meta.specs.States.{room_of}
use Rattle.fc_metadisk.specs.Stop.{StopLeaves, StopState}
use Rattle.fc_noted.specs.Noted.{NoHistory}
use Rattle.fc_noted.specs.declared.noted.Noted.{Noted}
use Rattle.fc_run.specs.Headline.{Session, SessionEnds}
use Rattle.fc_run.specs.Input.{Gave}
use Rattle.fc_run.specs.declared.ended.Ended.{Ended}
use Rattle.fc_stopped.proofs.Ends.{far_ends, short_ends}
use Rattle.fc_stopped.proofs.Opening.{opened_answers}
use Rattle.fc_stopped.proofs.Sessions.{CallTo, CameTo, TakesSome, came_far, is_legal, session_left, takes_some}
use Rattle.fc_stopped.specs.Ending.{IsOpened, StatePut, TextEnds, goes_by, over_disks}
use Rattle.fc_stopped.specs.Far.{far_of}
use Rattle.fc_stopped.specs.Countdown.{calls_by_stop, faults_by_stop}
use Rattle.fc_stopped.specs.Lines.{HasAnswered, HasLeft, StopStart, noted_runs}
use Rattle.fc_stopped.specs.Stopped.{ComeBack, IsLeftFront, IsState, StopEnds}
use Rattle.fc_stopped.specs.Text.{far_text}
use Rattle.fc_stopped.specs.declared.far.Far.{Far}

-- A half of that size is one of another number of bytes, where the two are the same.
pub half_as : (number half other : ℕ) (call : Call) → half ≡ other → StopEnds number half call → StopEnds number other call
half_as number half other call same ends = subst (λ (n : ℕ). StopEnds number n call) same ends

-- the sink of such a session counts no fault
no_fault : (old new : ℕ) → new ≡ 0 → HasRisen old new → ⊥
no_fault old new none (inl rose) = omega (arith, none, rose)
no_fault old new none (inr last) = omega (arith, none, last)

noted_left : {C : Type 0} (n : Noted C StopState) (stop : Option NotedStop) (by : StopStart) {s : Session} → s.sink'.faults ≡ 0 → length s.history.entries ≤ 262144 →
    (ends : SessionEnds s (noted_runs (λ (d : StopState). d.bytes) StopLeaves faults_by_stop calls_by_stop n stop by)) →
    HasLeft (λ (d : StopState). d.bytes) StopLeaves faults_by_stop calls_by_stop n by.start s.history (CameTo s.ended stop by s.source s.source' s.history ends.bytes)
noted_left n stop by {s = s} none room ends =
    session_left (λ (d : StopState). d.bytes) StopLeaves faults_by_stop calls_by_stop n stop by s ends.bytes room s.ended (no_fault s.sink.faults s.sink'.faults none) ends.ends

-- A session that came to an end over a noted store: what was taken of its source, and what it left of its lines.
pub record SessionLeft {C : Type 0} (now : Noted C StopState) (stop : Option NotedStop) (by : StopStart) (s : Session) : Type 0 where
  pub bytes : List ℕ
  pub gave : Gave s.source bytes s.source'
  pub left : HasLeft (λ (d : StopState). d.bytes) StopLeaves faults_by_stop calls_by_stop now by.start s.history (CameTo s.ended stop by s.source s.source' s.history bytes)

-- It began with the store as it was opened.
pub opened_left : {C : Type 0} {n : Noted C StopState} (now : Noted C StopState) (stop : Option NotedStop) {old : List DiskState} {number : ℕ} {history : HistoryState} {s : Session} → s.sink'.faults ≡ 0 →
    length s.history.entries ≤ 262144 → history ≡ NoHistory → IsOpened n old number →
    ((by : StopStart) → HasAnswered (λ (d : StopState). d.bytes) StopLeaves faults_by_stop calls_by_stop n None by [] history →
    SessionEnds s (noted_runs (λ (d : StopState). d.bytes) StopLeaves faults_by_stop calls_by_stop now stop by)) →
    SessionLeft now stop (goes_by number (room_of (λ (d : StopState). d.bytes) n.meta) old) s
opened_left {n = n} now stop {old = old} {number = number} {history = history} {s = s} none room main opened ran =
    let by : StopStart = goes_by number (room_of (λ (d : StopState). d.bytes) n.meta) old in
    let ends = ran by (opened_answers n old number history main opened) in
    record { bytes = ends.bytes; gave = ends.gave; left = noted_left now stop by {s = s} none room ends }

module _ (number half : ℕ) (call : Call) (e : Ended) (stop : Option NotedStop) (bytes : List ℕ) (left : Agenda) (last : Whole)
    (told : IsOf last call.history) (gave : Gave call.source bytes call.source') (to : CallTo number half e stop call bytes left last) where
  some : TakesSome (over_disks call.disks) call.source' call.history bytes last
  some = takes_some e stop (goes_by number half call.disks) call.source call.source' call.history bytes left last to

  -- It came so far, and what is recovered is written.
  pub stop_far : (far : Far) → far_of number e stop ≡ Ok far →
      StatePut (history_text call.history ++ far_text far) (IsState call last left) (IsLeftFront call last left) call.status call.sink call.sink' →
      ComeBack call.status call.disks call.disks' last → StopEnds number half call
  stop_far far is put back =
      record {
        last = last;
        legal = is_legal (over_disks call.disks) call.source' call.history bytes last some;
        named = inl told;
        bytes = bytes;
        gave = gave;
        ends = far_ends number half far call bytes left last (came_far number half call bytes left last e stop far is to) some call.status put;
        disks = back;
      }

  -- It ended with this status.
  pub stop_short : (asked : Status) → far_of number e stop ≡ Err asked → TextEnds (history_text call.history) asked call.status call.sink call.sink' → ComeBack call.status call.disks call.disks' last →
      StopEnds number half call
  stop_short asked is text back =
      record {
        last = last;
        legal = is_legal (over_disks call.disks) call.source' call.history bytes last some;
        named = inl told;
        bytes = bytes;
        gave = gave;
        ends = short_ends number half call bytes left last e stop asked call.status is to some text;
        disks = back;
      }
