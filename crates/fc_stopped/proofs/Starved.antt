-- A call for which memory was wanted before anything was read or written.
use Rattle.std.proofs.Common.{◌≡◌, ◌⊎◌, ℕ, List, [], ◌++◌, inl, inr, refl, sym, ap, subst, arith}
use Rattle.fc_agenda.specs.Goes.{Goes, stays}
use Rattle.fc_base.specs.declared.size.GrainSize.TheVariants.{K64}
use Rattle.fc_call.specs.Call.{Call, empty}
use Rattle.fc_call.specs.declared.status.Status.{Status}
use Rattle.fc_call.specs.declared.status.Status.TheVariants as status
use Rattle.fc_entry.specs.HistoryState.{HistoryState}
use Rattle.fc_entry.specs.Text.{history_text}
use Rattle.fc_entry.specs.declared.entry.Entry.{Entry}
use Rattle.fc_io.specs.Sink.{AddsFront, SinkState}
use Rattle.fc_legal.proofs.Naming.{IsNamed-none}
use Rattle.fc_legal.specs.Added.{IsOf}
use Rattle.fc_legal.specs.Agenda.{Session as Asking, session_rules}
use Rattle.fc_legal.specs.Legal.{IsLegal}
use Rattle.fc_legal.specs.Whole.{Whole}
use Rattle.fc_mdisk.specs.Disk.{DiskState}
use Rattle.fc_noted.specs.Noted.{NoHistory}
use Rattle.fc_owner.proofs.SessionOver.{gave_nothing}
use Rattle.fc_owner.specs.FirstTold.{first_told}
use Rattle.fc_run.specs.Input.{OfFirstTaken}
use Rattle.fc_stopped.proofs.Putting.{adds_none}
use Rattle.fc_stopped.proofs.Sessions.{some_taken}
use Rattle.fc_stopped.specs.Ending.{over_disks}
use Rattle.fc_stopped.specs.Reading.{stop_reading}
use Rattle.fc_stopped.specs.Stopped.{AnswersSome, AnswersUpTo, ComeBack, EndsBy, StandsBehind, StopEnds}

-- Of no lines there is no entry, and nothing is left to be asked.
pub no_lines : (call : Call) → call.history.entries ≡ [] → OfFirstTaken call.source' [] (AnswersUpTo call (first_told call.disks) (Asking []))
no_lines call none =
    let w : Whole = first_told call.disks in
    record {
      lines = [];
      are = inl refl;
      of = record {
        first = [];
        rest = [];
        split = refl;
        holds = subst (λ (es : List Entry). Goes (session_rules K64 stop_reading) (Asking []) w es (Asking []) w) (sym none) stays;
      };
    }

pub none_answered : (call : Call) → call.history.entries ≡ [] → OfFirstTaken call.source' [] (AnswersSome call (first_told call.disks))
none_answered call none = some_taken (over_disks call.disks) call.source' call.history [] (Asking []) (first_told call.disks) (no_lines call none)

pub no_entries : (call : Call) → call.history.entries ≡ [] → IsLegal K64 (first_told call.disks) call.history.entries (first_told call.disks)
no_entries call none = subst (λ (es : List Entry). IsLegal K64 (first_told call.disks) es (first_told call.disks)) (sym none) (IsNamed-none (first_told call.disks))

-- `main` has its name, and there is no entry.
pub main_told : (disks : List DiskState) (history : HistoryState) → history ≡ NoHistory → IsOf (first_told disks) history
main_told disks history is = subst (IsOf (first_told disks)) (sym is) record { actors = refl; entries = refl }

starved_by : (number half : ℕ) (call : Call) → call.status ≡ status.NoMemory → call.source' ≡ call.source → call.sink' ≡ call.sink → call.history.entries ≡ [] →
    IsOf (first_told call.disks) call.history ⊎ ((call.status ≡ status.NoMemory) × (call.history ≡ empty)) → StopEnds number half call
starved_by number half call is source sink none named =
    let w : Whole = first_told call.disks in
    let front : AddsFront call.sink.held (history_text call.history ++ []) call.sink'.held =
    subst (λ (k : SinkState). AddsFront call.sink.held (history_text call.history ++ []) k.held) (sym sink) (adds_none call.sink.held (history_text call.history ++ [])) in
    let ends : EndsBy number half status.NoMemory call w [] = (omega arith, none_answered call none, ([], StandsBehind.nothing, front)) in
    let back : ComeBack status.NoMemory call.disks call.disks' w = tt in
    record {
      last = w;
      legal = no_entries call none;
      named = named;
      bytes = [];
      gave = gave_nothing call.source call.source' source;
      ends = subst (λ (s : Status). EndsBy number half s call w []) (sym is) ends;
      disks = subst (λ (s : Status). ComeBack s call.disks call.disks' w) (sym is) back;
    }

-- Nobody had a name yet.
pub starved_stop : (number half : ℕ) (call : Call) → call.status ≡ status.NoMemory → call.source' ≡ call.source → call.sink' ≡ call.sink → call.history ≡ empty → StopEnds number half call
starved_stop number half call is source sink none = starved_by number half call is source sink (ap (λ (h : HistoryState). h.entries) none) (inr (is, none))

-- `main` had its name.
pub starved_named : (number half : ℕ) (call : Call) → call.status ≡ status.NoMemory → call.source' ≡ call.source → call.sink' ≡ call.sink → call.history ≡ NoHistory → StopEnds number half call
starved_named number half call is source sink main =
    starved_by number half call is source sink (ap (λ (h : HistoryState). h.entries) main) (inl (main_told call.disks call.history main))
