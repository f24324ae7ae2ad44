-- A check, by how it ends.
use Rattle.std.proofs.Common.{◌≡◌, ◌≢◌, ◌≤◌, ◌⊎◌, ◌∙◌, true, false, [], length, ap, sym, refl, subst, arith, inl, inr, append-nil, Result, Ok, Err}
use Rattle.fc_call.specs.Call.{Call, empty}
use Rattle.fc_call.specs.declared.status.Status.{Status}
use Rattle.fc_call.specs.declared.status.Status.TheVariants as status
use Rattle.fc_check.proofs.InputLemmas.{taken_nothing}
use Rattle.fc_check.specs.Checked.{IsChecked}
use Rattle.fc_check.specs.Input.{TakenSome}
use Rattle.fc_check.specs.declared.verdict.CheckStop.{CheckStop}
use Rattle.fc_check.specs.declared.verdict.CheckStop.TheVariants as stop
use Rattle.fc_check.specs.declared.verdict.Verdict.{Verdict}
use Rattle.fc_check.specs.declared.verdict.Verdict.TheVariants.{Yes, No, Malformed}
use Rattle.fc_entry.specs.HistoryState.{HistoryState}
use Rattle.fc_entry.specs.Written.{Written}
use Rattle.fc_io.specs.Sink.{AddsFront, AfterFlush, SinkState}
use Rattle.fc_io.specs.Source.{SourceState}
use Rattle.fc_run.proofs.OutputLemmas.{HasRisen-before}
use Rattle.fc_run.specs.Takes.{EachGave}
use Rattle.fc_verdict.specs.CheckEnds.{CheckEnds, IsTold, status_said, status_stopped, verdict_line}

-- ---- memory was wanted to read the words

starved_checked : (source : SourceState) → IsChecked (Err stop.NoMemory) source source
starved_checked source =
    let none : TakenSome source source = taken_nothing source in
    record { bytes = none.bytes; past = none.past; taken = none.taken; answers = tt }

pub starved_check :
    (call : Call) →
    call.status ≡ status.NoMemory →
    call.source' ≡ call.source →
    call.sink' ≡ call.sink →
    call.disks' ≡ call.disks →
    call.history ≡ empty →
    CheckEnds call
starved_check call is source sink disks history =
    let P : SourceState → Type 0 = λ s. IsChecked (Err stop.NoMemory) call.source s in
    record {
      history = history;
      disks = disks;
      answer = Err stop.NoMemory;
      checked = subst P (sym source) (starved_checked call.source);
      told = (is, sink);
    }

-- ---- the other points of the theorem

pub check_takes : (call : Call) → CheckEnds call → EachGave call.source call.source'
check_takes call ends = ends.checked.taken.takes

pub check_few : (call : Call) → CheckEnds call → length call.history.entries ≤ 262144
check_few call ends =
    let none : length call.history.entries ≡ 0 = ap (λ (h : HistoryState). length h.entries) ends.history in
    omega (arith, none)

said_ran : (verdict : Verdict) → status_said verdict ≡ status.Usage → ⊥
said_ran (Yes count) is =
    let no : status.Done ≡ status.Usage = is in
    cc no
said_ran (No number) is =
    let no : status.Refuted ≡ status.Usage = is in
    cc no
said_ran (Malformed place) is =
    let no : status.Refuted ≡ status.Usage = is in
    cc no

stopped_ran : (of : CheckStop) → status_stopped of ≡ status.Usage → ⊥
stopped_ran stop.ReadFault is =
    let no : status.ReadFault ≡ status.Usage = is in
    cc no
stopped_ran stop.NoMemory is =
    let no : status.NoMemory ≡ status.Usage = is in
    cc no
stopped_ran stop.LogFull is =
    let no : status.LogFull ≡ status.Usage = is in
    cc no
stopped_ran stop.TooLong is =
    let no : status.TooLong ≡ status.Usage = is in
    cc no

told_ran : (answer : Result Verdict CheckStop) (is : Status) (before after : SinkState) → IsTold answer is before after → is ≡ status.Usage → ⊥
told_ran (Ok verdict) is before after (inl said) usage = said_ran verdict (sym said.0 ∙ usage)
told_ran (Ok verdict) is before after (inr failed) usage =
    let no : status.WriteFault ≡ status.Usage = sym failed.0 ∙ usage in
    cc no
told_ran (Err of) is before after told usage = stopped_ran of (sym told.0 ∙ usage)

-- words that ask for a check aren't told as words outside of the grammar
pub check_ran : (call : Call) → CheckEnds call → call.status ≢ status.Usage
check_ran call ends = told_ran ends.answer call.status call.sink call.sink' ends.told

-- ---- what was written

-- The line was put, and all was sent on.
pub told_sent :
    (verdict : Verdict) (is : Status) (before mid after : SinkState) →
    is ≡ status_said verdict →
    Written before (verdict_line verdict) false mid →
    AfterFlush mid false after →
    IsTold (Ok verdict) is before after
told_sent verdict is before mid after said put sent = inl (said, (sent.held ∙ put.held, sent.sent))

-- It was put, and sending it on failed.
pub told_unsent :
    (verdict : Verdict) (before mid after : SinkState) →
    Written before (verdict_line verdict) false mid →
    AfterFlush mid true after →
    IsTold (Ok verdict) status.WriteFault before after
told_unsent verdict before mid after put unsent =
    let whole : AddsFront before.held (verdict_line verdict) after.held = record {
      front = verdict_line verdict;
      rest = [];
      split = sym (append-nil (verdict_line verdict));
      added = unsent.held ∙ put.held;
    } in
    inr (refl, (HasRisen-before before.faults mid.faults after.faults put.faults.kept unsent.faults.cause, whole))

-- Putting it failed.
pub told_unput :
    (verdict : Verdict) (before after : SinkState) →
    Written before (verdict_line verdict) true after →
    IsTold (Ok verdict) status.WriteFault before after
told_unput verdict before after put = inr (refl, (put.faults.cause, put.front))

-- ---- all of a check

pub check_ends :
    (answer of : Result Verdict CheckStop) (call : Call) →
    answer ≡ of →
    IsChecked answer call.source call.source' →
    IsTold of call.status call.sink call.sink' →
    call.disks' ≡ call.disks →
    call.history ≡ empty →
    CheckEnds call
check_ends answer of call is checked told disks history =
    let P : Result Verdict CheckStop → Type 0 = λ a. IsTold a call.status call.sink call.sink' in
    record { history = history; disks = disks; answer = answer; checked = checked; told = subst P (sym is) told }
