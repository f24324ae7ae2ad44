-- How a call ends that ran a session, or for which memory was wanted before.
use Rattle.std.proofs.Common.{◌≡◌, ℕ, ◌⊎◌, ◌≤◌, List, [], ◌∷◌, codes, length, refl, sym, subst, ap, inl, inr, arith}
use Rattle.fc_base.specs.declared.size.GrainSize.{GrainSize}
use Rattle.fc_call.specs.Call.{Call, empty, session_of, status_of}
use Rattle.fc_call.specs.declared.status.Status.{Status}
use Rattle.fc_call.specs.declared.status.Status.TheVariants as status
use Rattle.fc_entry.specs.HistoryState.{HistoryState}
use Rattle.fc_entry.specs.declared.entry.Entry.{Entry}
use Rattle.fc_io.specs.Sink.{SinkState}
use Rattle.fc_io.specs.Source.{SourceState}
use Rattle.fc_legal.proofs.Naming.{IsNamed-none}
use Rattle.fc_legal.specs.Added.{IsOf}
use Rattle.fc_legal.specs.Legal.{IsLegal}
use Rattle.fc_legal.specs.Whole.{Whole}
use Rattle.fc_mdisk.specs.Disk.{DiskState}
use Rattle.fc_run.specs.Input.{Gave}
use Rattle.fc_run.specs.declared.ended.Ended.{Ended}
use Rattle.fc_run.specs.declared.ended.Ended.TheVariants as ended
use Rattle.fc_run.specs.declared.form.Form.{Form}
use Rattle.fc_top.proofs.CompleteLemmas.{completes}
use Rattle.fc_owner.proofs.SessionOver.{starved_at_once, gave_nothing}
use Rattle.fc_owner.specs.FirstTold.{first_told}
use Rattle.fc_top.specs.DisksBack.{DisksAfter}
use Rattle.fc_top.specs.PlainEnds.{PlainEnds}
use Rattle.fc_owner.specs.PlainRuns.{plain_runs}
use Rattle.fc_owner.specs.StoreRuns.{IsOver, StandsOr}

-- The disks come back as they should, by what is told at the end.
abbrev pub ComeBack : GrainSize → Call → (Whole → Type 0) → Type 0
ComeBack grain call Stands =
    (last : Whole) → IsLegal grain (first_told call.disks) call.history.entries last → Stands last →
    DisksAfter call.status call.disks call.disks' call.history.entries last

pub plain_ends :
    (form : Form) (grain : GrainSize) (source source' : SourceState) (call : Call) (e : Ended) (Stands : HistoryState → Whole → Type 0) (Kept : Type 0) (bytes : List ℕ) →
    call.status ≡ status_of e →
    Gave source bytes source' →
    IsOver grain (first_told call.disks) Stands Kept e (session_of e form source source' call) bytes →
    length call.history.entries ≤ 262144 →
    ComeBack grain call (λ last. StandsOr e (Stands call.history last) Kept) →
    PlainEnds form grain source source' call
plain_ends form grain source source' call e Stands Kept bytes is gave over few back =
    let disks = back over.last over.legal over.stands in
    record {
      last = over.last;
      ended = e;
      status = is;
      legal = over.legal;
      named = inl over.told;
      session = record { bytes = bytes; gave = gave; ends = over.ends };
      disks = disks;
      complete = completes e form grain source source' call (plain_runs grain (first_told call.disks) over.last) bytes over.last is over.ends
          over.legal few disks;
    }

-- Memory was wanted before anything was read.
pub starved_ends :
    (form : Form) (grain : GrainSize) (source source' : SourceState) (call : Call) →
    call.status ≡ status.NoMemory →
    source' ≡ source →
    call.sink' ≡ call.sink →
    call.history.entries ≡ [] →
    IsOf (first_told call.disks) call.history ⊎ (call.history ≡ empty) →
    PlainEnds form grain source source' call
starved_ends form grain source source' call is same_source same_sink none named =
    let w : Whole = first_told call.disks in
    let ends = starved_at_once grain w (session_of ended.NoMemory form source source' call) same_source same_sink none in
    let P : List Entry → Type 0 = λ es. IsLegal grain w es w in
    let legal : IsLegal grain w call.history.entries w = subst P (sym none) (IsNamed-none w) in
    let Q : Status → Type 0 = λ s. DisksAfter s call.disks call.disks' call.history.entries w in
    let disks : DisksAfter call.status call.disks call.disks' call.history.entries w = subst Q (sym is) tt in
    record {
      last = w;
      ended = ended.NoMemory;
      status = is;
      legal = legal;
      named = or_empty named;
      session = record { bytes = []; gave = gave_nothing source source' same_source; ends = ends };
      disks = disks;
      complete = completes ended.NoMemory form grain source source' call (plain_runs grain w w) [] w is ends legal
          (omega (arith, ap length none)) disks;
    }
  where
    or_empty : IsOf (first_told call.disks) call.history ⊎ (call.history ≡ empty) →
        IsOf (first_told call.disks) call.history ⊎ ((call.status ≡ status.NoMemory) × (call.history ≡ empty))
    or_empty (inl of) = inl of
    or_empty (inr none) = inr (is, none)

-- The same of a call that left source and sink alone.
pub starved_alone :
    (form : Form) (grain : GrainSize) (source : SourceState) (sink : SinkState) (disks disks' : List DiskState) (history : HistoryState) →
    history.entries ≡ [] →
    IsOf (first_told disks) history ⊎ (history ≡ empty) →
    (outer outer' : SourceState) →
    PlainEnds form grain source source
    (record { status = status.NoMemory; source = outer; source' = outer'; sink = sink; sink' = sink; disks = disks; disks' = disks'; history = history })
starved_alone form grain source sink disks disks' history none named outer outer' =
    let call : Call = record { status = status.NoMemory; source = outer; source' = outer'; sink = sink; sink' = sink; disks = disks; disks' = disks'; history = history } in
    starved_ends form grain source source call refl refl refl none named

-- `main` has its name, and nothing is answered yet.
pub main_told : (disks : List DiskState) (history : HistoryState) → history ≡ record { actors = codes "main" ∷ []; entries = [] } → IsOf (first_told disks) history
main_told disks history is =
    let P : HistoryState → Type 0 = λ h. IsOf (first_told disks) h in
    subst P (sym is) record { actors = refl; entries = refl }

-- Such a call wanted memory though `main` had its name.
pub named_alone :
    (form : Form) (grain : GrainSize) (source : SourceState) (sink : SinkState) (disks disks' : List DiskState) (history : HistoryState) →
    history ≡ record { actors = codes "main" ∷ []; entries = [] } →
    (outer outer' : SourceState) →
    PlainEnds form grain source source
    (record { status = status.NoMemory; source = outer; source' = outer'; sink = sink; sink' = sink; disks = disks; disks' = disks'; history = history })
named_alone form grain source sink disks disks' history is outer outer' =
    starved_alone form grain source sink disks disks' history (ap (λ (h : HistoryState). h.entries) is) (inl (main_told disks history is)) outer outer'
