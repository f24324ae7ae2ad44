-- The theorem, of a call by what it is asked for.
use Rattle.std.proofs.Common.{◌≡◌, ◌≢◌, ◌≤◌, ◌⊎◌, ◌∙◌, ℕ, true, length, ap, sym, refl, subst, arith, inr, Option, Some, None}
use Rattle.fc_args.specs.Grammar.{is_offered}
use Rattle.fc_args.specs.declared.asked.Asked.{Asked}
use Rattle.fc_args.specs.declared.asked.Asked.TheVariants.{Run, Drill, Check, Stop}
use Rattle.fc_base.specs.declared.size.GrainSize.TheVariants.{K64}
use Rattle.fc_call.specs.Call.{Call, empty}
use Rattle.fc_call.specs.declared.status.Status.{Status}
use Rattle.fc_call.specs.declared.status.Status.TheVariants as status
use Rattle.fc_entry.specs.HistoryState.{HistoryState}
use Rattle.fc_io.specs.Source.{SourceState}
use Rattle.fc_run.proofs.TakesLemmas.{EachGave-none}
use Rattle.fc_run.specs.Takes.{EachGave}
use Rattle.fc_run.specs.declared.form.Form.TheVariants.{Summary}
use Rattle.fc_stopped.proofs.Starved.{starved_stop}
use Rattle.fc_stopped.specs.Calls.{half_of_disk}
use Rattle.fc_stopped.specs.Stopped.{EndsBy, StopEnds}
use Rattle.fc_top.proofs.DrillLemmas.{drill_ends}
use Rattle.fc_top.proofs.PlainLemmas.{starved_ends}
use Rattle.fc_top.proofs.WordLemmas.{run-uncached}
use Rattle.fc_top.specs.Ends.{AsksNothing, Ends, drill_source}
use Rattle.fc_top.specs.Traced.{run_form}
use Rattle.fc_top.specs.Theorem.{Theorem}
use Rattle.fc_verdict.proofs.CheckLemmas.{starved_check}

-- A stop whose words are in the grammar isn't Usage.
pub stop_ran : (number half : ℕ) (call : Call) → StopEnds number half call → call.status ≢ status.Usage
stop_ran number half call ends usage = subst (λ (s : Status). EndsBy number half s call ends.last ends.bytes) usage ends.ends

-- What is asked for was run.
pub theorem_run :
    (asked : Asked) (call : Call) →
    call.status ≢ status.Usage →
    EachGave call.source call.source' →
    length call.history.entries ≤ 262144 →
    Ends (Some asked) call →
    Theorem (Some asked) call
theorem_run asked call ran takes few ends =
    record { usage = λ usage. absurd (ran usage); takes = takes; limit = few; ends = ends }

-- What is asked for is this, and was run.
pub theorem_of :
    (asked of : Asked) (call : Call) →
    asked ≡ of →
    call.status ≢ status.Usage →
    EachGave call.source call.source' →
    length call.history.entries ≤ 262144 →
    Ends (Some of) call →
    Theorem (Some asked) call
theorem_of asked of call is ran takes few ends =
    let P : Asked → Type 0 = λ a. Ends (Some a) call in
    theorem_run asked call ran takes few (subst P (sym is) ends)

-- The call did nothing.
pub record IsIdle (call : Call) : Type 0 where
  pub source : call.source' ≡ call.source
  pub sink : call.sink' ≡ call.sink
  pub disks : call.disks' ≡ call.disks
  pub history : call.history ≡ empty

idle_takes : (call : Call) → IsIdle call → EachGave call.source call.source'
idle_takes call idle =
    let P : SourceState → Type 0 = λ s. EachGave call.source s in
    subst P (sym idle.source) (EachGave-none call.source)

idle_limit : (call : Call) → IsIdle call → length call.history.entries ≤ 262144
idle_limit call idle =
    let none : length call.history.entries ≡ 0 = ap (λ (h : HistoryState). length h.entries) idle.history in
    omega (arith, none)

asks_nothing : (call : Call) → (call.status ≡ status.Usage) ⊎ (call.status ≡ status.NoMemory) → IsIdle call → AsksNothing call
asks_nothing call is idle =
    record { status = is; source = idle.source; sink = idle.sink; disks = idle.disks; history = idle.history }

-- Nothing is asked for.
pub theorem_unasked :
    (asked : Option Asked) (call : Call) →
    asked ≡ None →
    (call.status ≡ status.Usage) ⊎ (call.status ≡ status.NoMemory) →
    IsIdle call →
    Theorem asked call
theorem_unasked asked call none is idle =
    let P : Option Asked → Type 0 = λ a. Ends a call in
    record {
      usage = λ usage. none;
      takes = idle_takes call idle;
      limit = idle_limit call idle;
      ends = subst P (sym none) (asks_nothing call is idle);
    }

starved : (asked : Asked) (call : Call) → is_offered asked ≡ true → call.status ≡ status.NoMemory → IsIdle call → Ends (Some asked) call
starved (Run options) call built is idle =
    record {
      cacheless = run-uncached options built;
      ends = starved_ends (run_form options call.disks) options.grain call.source call.source' call is idle.source idle.sink
          (ap (λ (h : HistoryState). h.entries) idle.history) (inr idle.history);
    }
starved (Drill number) call built is idle =
    let source : SourceState = drill_source number in
    drill_ends number source call idle.source (EachGave-none source)
    (starved_ends Summary K64 source source call is refl idle.sink (ap (λ (h : HistoryState). h.entries) idle.history) (inr idle.history))
starved Check call built is idle = starved_check call is idle.source idle.sink idle.disks idle.history
starved (Stop number) call built is idle = starved_stop number half_of_disk call is idle.source idle.sink idle.history

-- Memory was wanted to read the words.
pub theorem_starved :
    (asked : Option Asked) (call : Call) →
    ((of : Asked) → asked ≡ Some of → is_offered of ≡ true) →
    call.status ≡ status.NoMemory →
    IsIdle call →
    Theorem asked call
theorem_starved None call built is idle = theorem_unasked None call refl (inr is) idle
theorem_starved (Some asked) call built is idle =
    let no_usage : call.status ≢ status.Usage = λ usage.
    let no : status.NoMemory ≡ status.Usage = sym is ∙ usage in
    absurd (cc no) in
    theorem_run asked call no_usage (idle_takes call idle) (idle_limit call idle)
    (starved asked call (built asked refl) is idle)
