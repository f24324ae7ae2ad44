-- One line more: the noted store goes on to answer lines, or leaves what is told of the first entries; and the history only grows.
use Rattle.std.proofs.Common.{◌≡◌, ℕ, ◌≤◌, List, [], ◌∷◌, ◌++◌, length, map, sym, ◌∙◌, subst, Option, Some, None, Result, Ok, Err, OnOk, IfErr}
use Rattle.std.proofs.lemmas.List.{map-append}
use Rattle.fc_agenda.proofs.Going.{Goes-append, GoesSome-asking, GoesSome-whole}
use Rattle.fc_agenda.specs.Goes.{Goes, GoesAsking, GoesSome, GoesToEnd}
use Rattle.fc_base.specs.declared.command.Line.{Line}
use Rattle.fc_base.specs.declared.fault.WordFault.{WordFault}
use Rattle.fc_base.specs.declared.size.GrainSize.{GrainSize}
use Rattle.fc_base.specs.declared.size.GrainSize.TheVariants.{K64}
use Rattle.fc_blocks.specs.Segments.{Segment, single}
use Rattle.fc_changed.specs.Row.{Row}
use Rattle.fc_entry.specs.HistoryState.{HistoryState}
use Rattle.fc_entry.specs.Text.{HasNames}
use Rattle.fc_entry.specs.declared.entry.Entry.{Entry}
use Rattle.fc_legal.proofs.Appending.{Goes-more_segments, IsLegal-run, IsRun-append, WantsMore-append, with_segments}
use Rattle.fc_legal.proofs.Naming.{HasMore}
use Rattle.fc_legal.specs.Added.{Adds, IsOf}
use Rattle.fc_legal.specs.Agenda.{Agenda, Session, session_rules}
use Rattle.fc_legal.specs.Run.{IsRun, WantsMore}
use Rattle.fc_legal.specs.Whole.{Whole}
use Rattle.fc_marks.specs.Meter.{Meter}
use Rattle.fc_marks.specs.declared.error.NotedStop.{NotedStop}
use Rattle.fc_marks.specs.declared.error.NotedStop.TheVariants.{LogFull, MetaFailed, MetaFull, NoMemory}
use Rattle.fc_noted.specs.Lines.{LineEnds, LineStops, Ran}
use Rattle.fc_noted.specs.Making.{KeepLanes, KeepsCount}
use Rattle.fc_noted.specs.Noted.{IsNotedAt}
use Rattle.fc_noted.specs.Stopping.{LeftAt, Leaves, LineHalts, OfMetadata, Paid}
use Rattle.fc_noted.specs.declared.noted.Noted.{Noted}
use Rattle.fc_owner.proofs.LineAnswers.{AddsSome, history_grows, names_stay}
use Rattle.fc_owner.proofs.Names.{legal_names}
use Rattle.fc_owner.specs.FirstTold.{first_told}
use Rattle.fc_run.specs.Runs.{GrowsTo, LineLeaves}
use Rattle.fc_stopped.proofs.Lanes.{lanes_kept}
use Rattle.fc_stopped.proofs.Left.{answered_left}
use Rattle.fc_stopped.proofs.Paying.{calls_left, counted_on}
use Rattle.fc_stopped.specs.Calls.{CallsLeft}
use Rattle.fc_stopped.specs.Lines.{HasAnswered, HasLeft, LeftBy, LineIsAnswered, RunsAsking, StopStart, noted_runs, stop_told}
use Rattle.fc_stopped.specs.Reading.{stop_reading}

more_lines : (lines : List (List ℕ)) (line : List ℕ) → map single lines ++ single line ∷ [] ≡ map single (lines ++ line ∷ [])
more_lines lines line = sym (map-append single lines (line ∷ []))

-- Behind a run more segments are left to be asked; and what is answered of them leaves what it leaves.
run_then : (grain : GrainSize) (w mid : Whole) (segs more : List Segment) (xs : List Entry) → IsRun grain stop_reading w segs xs mid → Goes (session_rules grain stop_reading) (Session (segs ++ more)) w xs (Session more) mid
run_then grain w mid segs more xs run =
    let P : Agenda → Type 0 = λ b. Goes (session_rules grain stop_reading) (Session (segs ++ more)) w xs (with_segments more b) mid in
    subst P run.over (Goes-more_segments grain stop_reading more (Session segs) run.end w mid xs run.goes)

run_up_to : (grain : GrainSize) (w mid last : Whole) (segs more : List Segment) (xs ys : List Entry) (left : Agenda) → IsRun grain stop_reading w segs xs mid →
    Goes (session_rules grain stop_reading) (Session more) mid ys left last → Goes (session_rules grain stop_reading) (Session (segs ++ more)) w (xs ++ ys) left last
run_up_to grain w mid last segs more xs ys left run on =
    Goes-append (session_rules grain stop_reading) (Session (segs ++ more)) (Session more) left w mid last xs ys (run_then grain w mid segs more xs run) on

-- Without a stop nothing is said of calls.
pub none_left : (s : StopStart) (stop : Option NotedStop) (entries : List Entry) (last : Whole) (left : Agenda) → stop ≡ None → CallsLeft s.number s.half stop entries last left
none_left s stop entries last left on = subst (λ (o : Option NotedStop). CallsLeft s.number s.half o entries last left) (sym on) tt

-- The first of a line, whatever is left of it.
in_part : (grain : GrainSize) (line : List ℕ) (told next : Whole) (left : Agenda) (old new : HistoryState) →
    Adds old new (λ more. Goes (session_rules grain stop_reading) (Session (single line ∷ [])) told more left next) →
    Adds old new (λ more. GoesSome (session_rules grain stop_reading) (Session (single line ∷ [])) told more next)
in_part grain line told next left old new adds = record { more = adds.more; entries = adds.entries; are = record { end = left; goes = adds.are } }

module _ {C D : Type 0} (seen : D → List ℕ) (may_leave : D → List ℕ → Type 0) (fault_count calls : D → ℕ) where
  -- A line that was read is answered, or its fault is.
  pub line_is_answered : (read : Result Line WordFault) (result : Result (Unit {0}) NotedStop) (n now : Noted C D) (before after : HistoryState) →
      OnOk result (LineEnds seen may_leave read n now before after) → IfErr result (λ stop. LineStops seen may_leave fault_count calls read stop n now before after) → Ran seen fault_count calls result n now after →
      (bytes : List ℕ) (w : Whole) (least : List Row) → stop_reading w.books bytes ≡ read → IsNotedAt seen may_leave n before w least → LineIsAnswered seen may_leave fault_count calls result n now bytes w before after
  line_is_answered read (Ok none) n now before after answered halted ran bytes w least is at = (ran.live, ran.grain, answered stop_reading bytes w least is at)
  line_is_answered read (Err stop) n now before after answered halted ran bytes w least is at = halted stop_reading bytes w least is at

  -- ---- one line behind others

  module _ (s : StopStart) (n now : Noted C D) (stop : Option NotedStop) (lines : List (List ℕ)) (line : List ℕ) (old new : HistoryState)
      (a : HasAnswered seen may_leave fault_count calls n stop s lines old) (keep : KeepLanes n.store now.store) where
    abbrev grain : GrainSize
    grain = s.start.grain

    abbrev w : Whole
    w = first_told s.start.disks

    pub line_answered : (also : Option NotedStop) → also ≡ None → LineIsAnswered seen may_leave fault_count calls (Ok tt) n now line a.last old new → KeepsCount {T = Unit {0}} seen fault_count calls (Ok tt) n now →
        HasAnswered seen may_leave fault_count calls now also s (lines ++ line ∷ []) new
    line_answered also none r k =
        let adds = r.2.3 in
        let next : Whole = r.2.0 in
        let are : IsRun grain stop_reading a.last (single line ∷ []) adds.more next =
        subst (λ (g : GrainSize). GoesToEnd (session_rules g stop_reading) (Session (single line ∷ [])) a.last adds.more next) a.grain adds.are in
        let all = IsRun-append grain stop_reading w a.last next (map single lines) (single line ∷ []) old.entries adds.more a.run are in
        record {
          on = none;
          live = r.0;
          sized = a.sized;
          grain = r.1 ∙ a.grain;
          lanes = lanes_kept s.start n.store now.store keep a.lanes;
          last = next;
          least = r.2.1;
          at = r.2.2;
          counted = counted_on seen may_leave fault_count calls s tt n now a.counted k;
          run = subst (λ (es : List Entry). IsRun grain stop_reading w (map single (lines ++ line ∷ [])) es next) (sym adds.entries)
              (subst (λ (segs : List Segment). IsRun grain stop_reading w segs (old.entries ++ adds.more) next) (more_lines lines line) all);
        }

    left_asking : (next : Whole) (left : Agenda) → IsOf next new → Leaves n.store.control.grain may_leave now next left →
        Adds old new (λ more. GoesAsking (session_rules n.store.control.grain stop_reading) (Session (single line ∷ [])) a.last more next) →
        HasLeft seen may_leave fault_count calls now s.start new (λ agenda last. RunsAsking s.start (lines ++ line ∷ []) new last)
    left_asking next left told leaves adds =
        let are : WantsMore grain stop_reading a.last (single line ∷ []) adds.more next =
        subst (λ (g : GrainSize). GoesAsking (session_rules g stop_reading) (Session (single line ∷ [])) a.last adds.more next) a.grain adds.are in
        let all = WantsMore-append grain stop_reading w a.last next (map single lines) (single line ∷ []) old.entries adds.more a.run are in
        record {
          lanes = lanes_kept s.start n.store now.store keep a.lanes;
          last = next;
          left = left;
          told = told;
          leaves = subst (λ (g : GrainSize). Leaves g may_leave now next left) a.grain leaves;
          holds = subst (λ (es : List Entry). WantsMore grain stop_reading w (map single (lines ++ line ∷ [])) es next) (sym adds.entries)
              (subst (λ (segs : List Segment). WantsMore grain stop_reading w segs (old.entries ++ adds.more) next) (more_lines lines line) all);
        }

    left_some : (also : Option NotedStop) (next : Whole) (left : Agenda) → IsOf next new → Leaves n.store.control.grain may_leave now next left → CallsLeft s.number s.half also new.entries next left →
        Adds old new (λ more. Goes (session_rules n.store.control.grain stop_reading) (Session (single line ∷ [])) a.last more left next) →
        HasLeft seen may_leave fault_count calls now s.start new (LeftBy also s (lines ++ line ∷ []) new)
    left_some also next left told leaves costs adds =
        let are : Goes (session_rules grain stop_reading) (Session (single line ∷ [])) a.last adds.more left next =
        subst (λ (g : GrainSize). Goes (session_rules g stop_reading) (Session (single line ∷ [])) a.last adds.more left next) a.grain adds.are in
        let all = run_up_to grain w a.last next (map single lines) (single line ∷ []) old.entries adds.more left a.run are in
        record {
          lanes = lanes_kept s.start n.store now.store keep a.lanes;
          last = next;
          left = left;
          told = told;
          leaves = subst (λ (g : GrainSize). Leaves g may_leave now next left) a.grain leaves;
          holds = (
            subst (λ (es : List Entry). Goes (session_rules grain stop_reading) (Session (map single (lines ++ line ∷ []))) w es left next) (sym adds.entries)
                (subst (λ (segs : List Segment). Goes (session_rules grain stop_reading) (Session segs) w (old.entries ++ adds.more) left next) (more_lines lines line) all),
            costs,
          );
        }

    -- what it cost
    costs_left : (halt : NotedStop) (next : Whole) (left : Agenda) (meter : Meter) → KeepsCount {T = Unit {0}} seen fault_count calls (Err halt) n now →
        Paid seen fault_count calls n.store.control.grain n now next new.entries meter → OfMetadata halt (LeftAt seen calls n.store.control.grain halt n now next left meter) → CallsLeft s.number s.half (Some halt) new.entries next left
    costs_left halt next left meter k paid at =
        let size : n.store.control.grain ≡ K64 = a.grain ∙ a.sized in
        calls_left seen may_leave fault_count calls s n now next left new.entries meter a.counted (subst (λ (g : GrainSize). Paid seen fault_count calls g n now next new.entries meter) size paid) halt k
        (subst (λ (g : GrainSize). OfMetadata halt (LeftAt seen calls g halt n now next left meter)) size at)

    -- A line that isn't answered to its end leaves the first of it.
    pub line_halted : (halt : NotedStop) → LineHalts seen may_leave fault_count calls stop_reading halt n now line a.last old new → KeepsCount {T = Unit {0}} seen fault_count calls (Err halt) n now →
        LineLeaves {A = Unit {0}} (Err (stop_told halt)) (noted_runs seen may_leave fault_count calls now (Some halt) s) (lines ++ line ∷ []) new
    line_halted LogFull h k = (left_asking h.1.0 h.1.2.0 h.1.1 h.1.2.1 h.1.3, h.0)
    line_halted NoMemory h k = left_some (Some NoMemory) h.0 h.1 h.2 h.3 (costs_left NoMemory h.0 h.1 h.4.0 k h.4.1 h.4.2) h.5
    line_halted MetaFailed h k = left_some (Some MetaFailed) h.0 h.1 h.2 h.3 (costs_left MetaFailed h.0 h.1 h.4.0 k h.4.1 h.4.2) h.5
    line_halted MetaFull h k = left_some (Some MetaFull) h.0 h.1 h.2 h.3 (costs_left MetaFull h.0 h.1 h.4.0 k h.4.1 h.4.2) h.5

  -- Memory was wanted to read the line: nothing of it is answered, and it is left to be asked.
  pub line_starved : (s : StopStart) (n : Noted C D) (stop : Option NotedStop) (lines : List (List ℕ)) (line : List ℕ) (history : HistoryState) → HasAnswered seen may_leave fault_count calls n stop s lines history →
      length history.entries ≤ 262144 → HasLeft seen may_leave fault_count calls n s.start history (LeftBy stop s (lines ++ line ∷ []) history)
  line_starved s n stop lines line history a room =
      let w : Whole = first_told s.start.disks in
      let left : Agenda = Session (single line ∷ []) in
      let up_to = run_then s.start.grain w a.last (map single lines) (single line ∷ []) history.entries a.run in
      answered_left seen may_leave fault_count calls n stop s lines history a room left (LeftBy stop s (lines ++ line ∷ []) history) (
        subst (λ (segs : List Segment). Goes (session_rules s.start.grain stop_reading) (Session segs) w history.entries (Session (single line ∷ [])) a.last) (more_lines lines line) up_to,
        none_left s stop history.entries a.last left a.on,
      )

  -- ---- the history only grows, and each entry's actor has a name

  some_added : (result : Result (Unit {0}) NotedStop) (n now : Noted C D) (line : List ℕ) (w : Whole) (old new : HistoryState) → LineIsAnswered seen may_leave fault_count calls result n now line w old new →
      AddsSome n.store.control.grain stop_reading (Session (single line ∷ [])) w old new
  some_added (Ok done) n now line w old new r =
      record {
        last = r.2.0;
        told = r.2.2.told.1;
        adds = record {
          more = r.2.3.more;
          entries = r.2.3.entries;
          are = GoesSome-whole (session_rules n.store.control.grain stop_reading) (Session (single line ∷ [])) w r.2.0 r.2.3.more r.2.3.are;
        };
      }
  some_added (Err LogFull) n now line w old new h =
      record {
        last = h.1.0;
        told = h.1.1;
        adds = record {
          more = h.1.3.more;
          entries = h.1.3.entries;
          are = GoesSome-asking (session_rules n.store.control.grain stop_reading) (Session (single line ∷ [])) w h.1.0 h.1.3.more h.1.3.are;
        };
      }
  some_added (Err NoMemory) n now line w old new h = record { last = h.0; told = h.2; adds = in_part n.store.control.grain line w h.0 h.1 old new h.5 }
  some_added (Err MetaFailed) n now line w old new h = record { last = h.0; told = h.2; adds = in_part n.store.control.grain line w h.0 h.1 old new h.5 }
  some_added (Err MetaFull) n now line w old new h = record { last = h.0; told = h.2; adds = in_part n.store.control.grain line w h.0 h.1 old new h.5 }

  line_grows : (s : StopStart) (n : Noted C D) (stop : Option NotedStop) (lines : List (List ℕ)) (line : List ℕ) (old new : HistoryState) (a : HasAnswered seen may_leave fault_count calls n stop s lines old) →
      AddsSome n.store.control.grain stop_reading (Session (single line ∷ [])) a.last old new → GrowsTo old new
  line_grows s n stop lines line old new a some = history_grows n.store.control.grain stop_reading (Session (single line ∷ [])) a.last old new tt a.at.told.1 some

  line_named : (s : StopStart) (n : Noted C D) (stop : Option NotedStop) (lines : List (List ℕ)) (line : List ℕ) (old new : HistoryState) (a : HasAnswered seen may_leave fault_count calls n stop s lines old) →
      AddsSome n.store.control.grain stop_reading (Session (single line ∷ [])) a.last old new → HasNames old → HasNames new
  line_named s n stop lines line old new a some =
      let w : Whole = first_told s.start.disks in
      let named : HasMore w.actors a.last.actors =
      legal_names s.start.grain w a.last old.entries (IsLegal-run s.start.grain stop_reading w a.last (map single lines) old.entries a.run) in
      names_stay n.store.control.grain stop_reading (Session (single line ∷ [])) a.last named.more old new tt a.at.told.1 (sym a.at.told.1.actors ∙ named.is) some

-- Both, of a line that is answered or in part.
pub line_adds : {C D : Type 0} {seen : D → List ℕ} {may_leave : D → List ℕ → Type 0} {fault_count calls : D → ℕ} {s : StopStart} {n : Noted C D} {stop : Option NotedStop} {lines : List (List ℕ)} {old : HistoryState} →
    (a : HasAnswered seen may_leave fault_count calls n stop s lines old) (result : Result (Unit {0}) NotedStop) (now : Noted C D) (line : List ℕ) (new : HistoryState) →
    LineIsAnswered seen may_leave fault_count calls result n now line a.last old new → (HasNames old → HasNames new) × GrowsTo old new
line_adds {seen = seen} {may_leave = may_leave} {fault_count = fault_count} {calls = calls} {s = s} {n = n} {stop = stop} {lines = lines} {old = old} a result now line new answered =
    let some = some_added seen may_leave fault_count calls result n now line a.last old new answered in (
      line_named seen may_leave fault_count calls s n stop lines line old new a some,
      line_grows seen may_leave fault_count calls s n stop lines line old new a some,
    )
