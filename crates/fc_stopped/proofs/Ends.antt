-- How a call ends: by how far its session came, or by the status of its session.
use Rattle.std.proofs.Common.{◌≡◌, ℕ, true, false, List, [], ◌++◌, inl, inr, sym, subst, append_assoc, Option, Some, None, Err}
use Rattle.std.proofs.lemmas.List.{append-nil}
use Rattle.fc_base.specs.declared.size.GrainSize.TheVariants.{K64}
use Rattle.fc_call.specs.Call.{Call}
use Rattle.fc_call.specs.declared.status.Status.{Status}
use Rattle.fc_call.specs.declared.status.Status.TheVariants as status
use Rattle.fc_entry.specs.Text.{history_text}
use Rattle.fc_format.specs.Halves.{Found}
use Rattle.fc_io.specs.Sink.{AddsFront, SinkState}
use Rattle.fc_legal.specs.Agenda.{Agenda}
use Rattle.fc_legal.specs.Whole.{Whole}
use Rattle.fc_marks.specs.declared.error.NotedStop.{NotedStop}
use Rattle.fc_marks.specs.declared.error.NotedStop.TheVariants.{LogFull, MetaFailed, MetaFull, NoMemory}
use Rattle.fc_recovery_text.specs.Recovering.{IsFirstFront, IsFirstText}
use Rattle.fc_run.specs.Output.{IsWritten}
use Rattle.fc_run.specs.declared.ended.Ended.{Ended}
use Rattle.fc_run.specs.declared.ended.Ended.TheVariants as ended
use Rattle.fc_stopped.proofs.Putting.{adds_all}
use Rattle.fc_stopped.proofs.Sessions.{CallTo, CameFar, TakesSome, some_taken}
use Rattle.fc_stopped.specs.Ending.{EndsUnopened, StatePut, TextEnds, over_disks}
use Rattle.fc_stopped.specs.Far.{far_of}
use Rattle.fc_stopped.specs.Stopped.{EndsBy, IsLeftFront, IsState, StandsBehind}
use Rattle.fc_stopped.specs.Text.{far_text}
use Rattle.fc_stopped.specs.declared.far.Far.{Far}
use Rattle.fc_stopped.specs.declared.far.Far.TheVariants.{ToCall, ToFull}

-- ---- what is recovered is written

module _ (number half : ℕ) (far : Far) (call : Call) (bytes : List ℕ) (left : Agenda) (last : Whole) (came : CameFar number half far call bytes left last)
    (some : TakesSome (over_disks call.disks) call.source' call.history bytes last) where
  put_text : (behind : List ℕ) → (history_text call.history ++ far_text far) ++ behind ≡ history_text call.history ++ (far_text far ++ behind)
  put_text behind = append_assoc (history_text call.history) (far_text far) behind

  -- how far it came, and what was put of the state
  stands : (text : List ℕ) → IsLeftFront call last left text → StandsBehind number half call last bytes (far_text far ++ text)
  stands text front = StandsBehind.state far left text came.lines came.costs front

  pub far_ends : (is : Status) → StatePut (history_text call.history ++ far_text far) (IsState call last left) (IsLeftFront call last left) is call.sink call.sink' → EndsBy number half is call last bytes
  far_ends status.Done put = (came.few, (far, left, put.0, came.lines, came.costs, put.1, (put.2, put.3)))
  far_ends status.Usage put = absurd put
  far_ends status.ReadFault put = absurd put
  far_ends status.WriteFault put =
      (put.3, some.few, some.taken, (far_text far ++ put.0, stands put.0 put.1, subst (λ (t : List ℕ). AddsFront call.sink.held t call.sink'.held) (put_text put.0) put.2))
  far_ends status.NoMemory put =
      (came.few, some.taken, (far_text far ++ put.0, stands put.0 put.1, subst (λ (t : List ℕ). AddsFront call.sink.held t call.sink'.held) (put_text put.0) put.2))
  far_ends status.LogFull put = absurd put
  far_ends status.TooLong put = absurd put
  far_ends status.Unended put = absurd put
  far_ends status.Refuted put = absurd put

-- ---- the text alone is written

module _ (number half : ℕ) (call : Call) (bytes : List ℕ) (left : Agenda) (last : Whole) where
  abbrev Ends : Status → Type 0
  Ends s = EndsBy number half s call last bytes

  front_of : (front : List ℕ) → AddsFront call.sink.held front call.sink'.held → AddsFront call.sink.held (front ++ []) call.sink'.held
  front_of front adds = subst (λ (t : List ℕ). AddsFront call.sink.held t call.sink'.held) (sym (append-nil front)) adds

  unwritten : TakesSome (over_disks call.disks) call.source' call.history bytes last → IsWritten call.sink (history_text call.history) true call.sink' → Ends status.WriteFault
  unwritten some written = (written.cut.risen, some.few, some.taken, ([], StandsBehind.nothing, front_of (history_text call.history) written.cut.front))

  written_memory : (stop : Option NotedStop) → CallTo number half ended.NoMemory stop call bytes left last → IsWritten call.sink (history_text call.history) false call.sink' → Ends status.NoMemory
  written_memory stop to written =
      let whole = adds_all call.sink.held (history_text call.history) call.sink'.held written.got.held in
      (to.0, some_taken (over_disks call.disks) call.source' call.history bytes left last to.1, ([], StandsBehind.nothing, front_of (history_text call.history) whole))

  stopped_ends : (stop : Option NotedStop) (asked : Status) → far_of number ended.NoMemory stop ≡ Err asked → CallTo number half ended.NoMemory stop call bytes left last → IsWritten call.sink (history_text call.history) false call.sink' → Ends asked
  stopped_ends None asked is to written =
      let same : status.NoMemory ≡ asked = cc is in
      subst Ends same (written_memory None to written)
  stopped_ends (Some LogFull) asked is to written =
      let same : status.NoMemory ≡ asked = cc is in
      subst Ends same (written_memory (Some LogFull) to written)
  stopped_ends (Some NoMemory) asked is to written =
      let same : status.NoMemory ≡ asked = cc is in
      subst Ends same (written_memory (Some NoMemory) to written)
  stopped_ends (Some MetaFailed) asked is to written = absurd (cc is)
  stopped_ends (Some MetaFull) asked is to written = absurd (cc is)

  written_ends : (e : Ended) (stop : Option NotedStop) (asked : Status) → far_of number e stop ≡ Err asked → CallTo number half e stop call bytes left last → IsWritten call.sink (history_text call.history) false call.sink' → Ends asked
  written_ends ended.Done stop asked is to written = absurd (cc is)
  written_ends ended.Unended stop asked is to written = absurd to
  written_ends ended.ReadFault stop asked is to written =
      let same : status.ReadFault ≡ asked = cc is in
      subst Ends same (to.0, to.1, to.2, (written.got.held, written.sent))
  written_ends ended.TooLong stop asked is to written =
      let same : status.TooLong ≡ asked = cc is in
      subst Ends same (to.0, to.1, to.2, to.3, to.4, (written.got.held, written.sent))
  written_ends ended.LogFull stop asked is to written =
      let same : status.LogFull ≡ asked = cc is in
      subst Ends same (to.0, to.1, to.2, (written.got.held, written.sent))
  written_ends ended.WriteFault stop asked is to written = absurd to
  written_ends ended.NoMemory stop asked is to written = stopped_ends stop asked is to written

  pub short_ends : (e : Ended) (stop : Option NotedStop) (asked is : Status) → far_of number e stop ≡ Err asked → CallTo number half e stop call bytes left last → TakesSome (over_disks call.disks) call.source' call.history bytes last →
      TextEnds (history_text call.history) asked is call.sink call.sink' → EndsBy number half is call last bytes
  short_ends e stop asked is short to some (inl text) = subst Ends (sym text.0) (written_ends e stop asked short to text.1)
  short_ends e stop asked is short to some (inr text) = subst Ends (sym text.0) (unwritten some text.1)

-- ---- there is no entry

pub unopened_call : (number : ℕ) (far : Far) (stop : NotedStop) (found : Found) (is : Status) (before after : SinkState) → far ≡ ToCall number → stop ≡ MetaFailed →
    StatePut (far_text far) (IsFirstText K64 found) (IsFirstFront K64 found) is before after → EndsUnopened number found stop is before after
unopened_call number far stop found is before after same at put =
    subst (λ (s : NotedStop). EndsUnopened number found s is before after) (sym at)
    (subst (λ (f : Far). StatePut (far_text f) (IsFirstText K64 found) (IsFirstFront K64 found) is before after) same put)

pub unopened_full : (number : ℕ) (far : Far) (stop : NotedStop) (found : Found) (is : Status) (before after : SinkState) → far ≡ ToFull → stop ≡ MetaFull →
    StatePut (far_text far) (IsFirstText K64 found) (IsFirstFront K64 found) is before after → EndsUnopened number found stop is before after
unopened_full number far stop found is before after same at put =
    subst (λ (s : NotedStop). EndsUnopened number found s is before after) (sym at)
    (subst (λ (f : Far). StatePut (far_text f) (IsFirstText K64 found) (IsFirstFront K64 found) is before after) same put)
