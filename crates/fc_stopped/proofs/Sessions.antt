-- A session that was run over a noted store: what came of its lines, by the way that it ended.
use Rattle.std.proofs.Common.{◌≡◌, ◌⊎◌, ℕ, ◌+◌, ◌≤◌, List, [], ◌∷◌, ◌++◌, inl, inr, length, length-append, map, refl, sym, ap, subst, ◌∙◌, arith, Option, Some, None, Ok}
use Rattle.std.proofs.lemmas.List.{append-nil}
use Rattle.fc_agenda.proofs.Going.{GoesSome-asking, GoesSome-whole}
use Rattle.fc_base.specs.Count.{HasRisen}
use Rattle.fc_blocks.specs.Segments.{single}
use Rattle.fc_call.specs.Call.{Call}
use Rattle.fc_entry.proofs.LineLemmas.{Grows, ended_lines-grow}
use Rattle.fc_entry.specs.HistoryState.{HistoryState}
use Rattle.fc_entry.specs.Lines.{all_lines, ended_lines}
use Rattle.fc_io.specs.Source.{SourceState}
use Rattle.fc_legal.proofs.Appending.{IsLegal-partial}
use Rattle.fc_legal.specs.Agenda.{Agenda, Session as Asking, session_rules}
use Rattle.fc_legal.specs.Legal.{IsLegal}
use Rattle.fc_legal.specs.Run.{IsPartialRun}
use Rattle.fc_legal.specs.Whole.{Whole}
use Rattle.fc_marks.specs.declared.error.NotedStop.{NotedStop}
use Rattle.fc_marks.specs.declared.error.NotedStop.TheVariants.{LogFull, MetaFailed, MetaFull, NoMemory}
use Rattle.fc_noted.specs.declared.noted.Noted.{Noted}
use Rattle.fc_owner.specs.FirstTold.{first_told}
use Rattle.fc_owner.specs.StoreRuns.{Start}
use Rattle.fc_run.specs.Headline.{EndsAs, Session}
use Rattle.fc_run.specs.Input.{IsAtEnd, OfFirstTaken, input_limit}
use Rattle.fc_run.specs.declared.ended.Ended.{Ended}
use Rattle.fc_run.specs.declared.ended.Ended.TheVariants as ended
use Rattle.fc_stopped.proofs.Answering.{none_left}
use Rattle.fc_stopped.proofs.Left.{answered_left}
use Rattle.fc_stopped.proofs.Paying.{cost_less}
use Rattle.fc_stopped.specs.Calls.{CallsBy, CallsLeft, CostLess}
use Rattle.fc_stopped.specs.Ending.{goes_by}
use Rattle.fc_stopped.specs.Far.{far_of}
use Rattle.fc_stopped.specs.Lines.{HasAnswered, HasLeft, LeftBy, RunsAsking, RunsLines, RunsUpTo, StopStart, noted_runs}
use Rattle.fc_stopped.specs.Reading.{stop_reading}
use Rattle.fc_stopped.specs.Stopped.{LinesBy}
use Rattle.fc_stopped.specs.declared.far.Far.{Far}
use Rattle.fc_stopped.specs.declared.far.Far.TheVariants.{ToCall, ToEnd, ToFull}

-- ---- what came of the lines

abbrev pub CameTo : Ended → Option NotedStop → StopStart → SourceState → SourceState → HistoryState → List ℕ → Agenda → Whole → Type 0
CameTo ended.Done stop s source source' history bytes left last =
    IsAtEnd source' × (length bytes ≤ input_limit) × RunsLines s.start (all_lines bytes) history last × (left ≡ Asking []) × CostLess s.number s.half history.entries last
CameTo ended.Unended stop s source source' history bytes left last = ⊥
CameTo ended.ReadFault stop s source source' history bytes left last =
    HasRisen source.faults source'.faults × (length bytes ≤ input_limit) × RunsLines s.start (ended_lines bytes) history last
CameTo ended.TooLong stop s source source' history bytes left last =
    (kept : List ℕ) × (past : ℕ) × (bytes ≡ kept ++ past ∷ []) × (length kept ≡ input_limit) × RunsLines s.start (ended_lines kept) history last
CameTo ended.LogFull stop s source source' history bytes left last =
    (length bytes ≤ input_limit) × OfFirstTaken source' bytes (λ lines. RunsAsking s.start lines history last) × (length history.entries ≡ 262144)
CameTo ended.WriteFault stop s source source' history bytes left last = ⊥
CameTo ended.NoMemory stop s source source' history bytes left last =
    (length bytes ≤ input_limit) × OfFirstTaken source' bytes (λ lines. RunsUpTo s.start lines history left last) × CallsLeft s.number s.half stop history.entries last left

-- Some first lines are answered, whatever is left.
abbrev pub RunsSome : Start → List (List ℕ) → HistoryState → Whole → Type 0
RunsSome start lines history last = IsPartialRun start.grain stop_reading (first_told start.disks) (map single lines) history.entries last

-- this holds of the same first lines
first_taken :
    (source : SourceState) (bytes : List ℕ) (Holds Of : List (List ℕ) → Type 0) (taken : OfFirstTaken source bytes Holds) → Of taken.of.first → OfFirstTaken source bytes Of
first_taken source bytes Holds Of taken holds =
    record { lines = taken.lines; are = taken.are; of = record { first = taken.of.first; rest = taken.of.rest; split = taken.of.split; holds = holds } }

whole_some : (start : Start) (lines : List (List ℕ)) (history : HistoryState) (last : Whole) → RunsLines start lines history last → RunsSome start lines history last
whole_some start lines history last run =
    GoesSome-whole (session_rules start.grain stop_reading) (Asking (map single lines)) (first_told start.disks) last history.entries run

asking_some : (start : Start) (lines : List (List ℕ)) (history : HistoryState) (last : Whole) → RunsAsking start lines history last → RunsSome start lines history last
asking_some start lines history last run =
    GoesSome-asking (session_rules start.grain stop_reading) (Asking (map single lines)) (first_told start.disks) last history.entries run

up_to_some : (start : Start) (lines : List (List ℕ)) (history : HistoryState) (left : Agenda) (last : Whole) → RunsUpTo start lines history left last → RunsSome start lines history last
up_to_some start lines history left last run = record { end = left; goes = run }

module _ {C D : Type 0} (seen : D → List ℕ) (may_leave : D → List ℕ → Type 0) (fault_count calls : D → ℕ) (n : Noted C D) (stop : Option NotedStop) (by : StopStart) (s : Session) (bytes : List ℕ)
    (room : length s.history.entries ≤ 262144) where
  abbrev To : Ended → Agenda → Whole → Type 0
  To e left last = CameTo e stop by s.source s.source' s.history bytes left last

  abbrev Left : (Agenda → Whole → Type 0) → Type 0
  Left Holds = HasLeft seen may_leave fault_count calls n by.start s.history Holds

  held_as : (Holds : Agenda → Whole → Type 0) (To : Agenda → Whole → Type 0) (l : Left Holds) → To l.left l.last → Left To
  held_as Holds To l to = record { lanes = l.lanes; last = l.last; left = l.left; told = l.told; leaves = l.leaves; holds = to }

  starved_left : (few : length bytes ≤ input_limit) (taken : OfFirstTaken s.source' bytes (λ first. HasAnswered seen may_leave fault_count calls n stop by first s.history ⊎ Left (LeftBy stop by first s.history))) →
      HasAnswered seen may_leave fault_count calls n stop by taken.of.first s.history ⊎ Left (LeftBy stop by taken.of.first s.history) → Left (To ended.NoMemory)
  starved_left few taken (inl a) =
      answered_left seen may_leave fault_count calls n stop by taken.of.first s.history a room a.run.end (To ended.NoMemory) (
        few,
        first_taken s.source' bytes _ (λ lines. RunsUpTo by.start lines s.history a.run.end a.last) taken a.run.goes,
        none_left by stop s.history.entries a.last a.run.end a.on,
      )
  starved_left few taken (inr l) =
      held_as (LeftBy stop by taken.of.first s.history) (To ended.NoMemory) l
      (few, first_taken s.source' bytes _ (λ lines. RunsUpTo by.start lines s.history l.left l.last) taken l.holds.0, l.holds.1)

  -- What is told is left so; the sink that the session wrote to didn't fail.
  pub session_left : (e : Ended) → (HasRisen s.sink.faults s.sink'.faults → ⊥) → EndsAs e s (noted_runs seen may_leave fault_count calls n stop by) bytes → Left (To e)
  session_left ended.Done quiet ends =
      let a = ends.2 in
      answered_left seen may_leave fault_count calls n stop by (all_lines bytes) s.history a room (Asking []) (To ended.Done)
      (ends.0, ends.1, a.run, refl, cost_less seen may_leave fault_count calls by n s.history.entries a.last (a.grain ∙ a.sized) a.counted a.at.counts)
  session_left ended.Unended quiet ends = absurd (cc ends.3)
  session_left ended.ReadFault quiet ends =
      answered_left seen may_leave fault_count calls n stop by (ended_lines bytes) s.history ends.2 room (Asking []) (To ended.ReadFault) (ends.0, ends.1, ends.2.run)
  session_left ended.TooLong quiet ends =
      answered_left seen may_leave fault_count calls n stop by (ended_lines ends.0) s.history ends.4 room (Asking []) (To ended.TooLong) (ends.0, ends.1, ends.2, ends.3, ends.4.run)
  session_left ended.LogFull quiet ends =
      let l = ends.1.of.holds in
      held_as (λ left last. RunsAsking by.start ends.1.of.first s.history last) (To ended.LogFull) l
      (ends.0, first_taken s.source' bytes _ (λ lines. RunsAsking by.start lines s.history l.last) ends.1 l.holds, ends.2)
  session_left ended.WriteFault quiet ends = absurd (quiet ends.0)
  session_left ended.NoMemory quiet ends = starved_left ends.0 ends.1 ends.1.of.holds

-- ---- some first lines are answered, and the history is legal

pub record TakesSome (start : Start) (source : SourceState) (history : HistoryState) (bytes : List ℕ) (last : Whole) : Type 0 where
  pub few : length bytes ≤ input_limit + 1
  pub taken : OfFirstTaken source bytes (λ lines. RunsSome start lines history last)

all_taken : (source : SourceState) (bytes : List ℕ) (lines : List (List ℕ)) (Of : List (List ℕ) → Type 0) → (lines ≡ ended_lines bytes) ⊎ (IsAtEnd source × (lines ≡ all_lines bytes)) → Of lines →
    OfFirstTaken source bytes Of
all_taken source bytes lines Of are of = record { lines = lines; are = are; of = record { first = lines; rest = []; split = sym (append-nil lines); holds = of } }

kept_taken : (source : SourceState) (bytes kept : List ℕ) (past : ℕ) (Of : List (List ℕ) → Type 0) → bytes ≡ kept ++ past ∷ [] → Of (ended_lines kept) → OfFirstTaken source bytes Of
kept_taken source bytes kept past Of is of =
    let grows : Grows (ended_lines kept) (ended_lines (kept ++ past ∷ [])) = ended_lines-grow kept (past ∷ []) in
    subst (λ (all : List ℕ). OfFirstTaken source all Of) (sym is)
    record {
      lines = ended_lines (kept ++ past ∷ []);
      are = inl refl;
      of = record { first = ended_lines kept; rest = grows.more; split = grows.is; holds = of };
    }

past_few : (bytes kept : List ℕ) (past : ℕ) → bytes ≡ kept ++ past ∷ [] → length kept ≡ input_limit → length bytes ≤ input_limit + 1
past_few bytes kept past is full = omega (arith, ap (length {A = ℕ}) is, length-append kept (past ∷ []), full)

-- it holds of the same first lines where another thing does
taken_as : (source : SourceState) (bytes : List ℕ) (Holds Of : List (List ℕ) → Type 0) → ((lines : List (List ℕ)) → Holds lines → Of lines) → OfFirstTaken source bytes Holds → OfFirstTaken source bytes Of
taken_as source bytes Holds Of turns taken = first_taken source bytes Holds Of taken (turns taken.of.first taken.of.holds)

pub some_taken : (start : Start) (source : SourceState) (history : HistoryState) (bytes : List ℕ) (left : Agenda) (last : Whole) → OfFirstTaken source bytes (λ lines. RunsUpTo start lines history left last) →
    OfFirstTaken source bytes (λ lines. RunsSome start lines history last)
some_taken start source history bytes left last taken =
    taken_as source bytes (λ lines. RunsUpTo start lines history left last) (λ lines. RunsSome start lines history last) (λ lines run. up_to_some start lines history left last run) taken

pub takes_some : (e : Ended) (stop : Option NotedStop) (by : StopStart) (source source' : SourceState) (history : HistoryState) (bytes : List ℕ) (left : Agenda) (last : Whole) → CameTo e stop by source source' history bytes left last →
    TakesSome by.start source' history bytes last
takes_some ended.Done stop by source source' history bytes left last to =
    record {
      few = omega (arith, to.1);
      taken = all_taken source' bytes (all_lines bytes) (λ lines. RunsSome by.start lines history last) (inr (to.0, refl)) (whole_some by.start (all_lines bytes) history last to.2);
    }
takes_some ended.Unended stop by source source' history bytes left last to = absurd to
takes_some ended.ReadFault stop by source source' history bytes left last to =
    record {
      few = omega (arith, to.1);
      taken = all_taken source' bytes (ended_lines bytes) (λ lines. RunsSome by.start lines history last) (inl refl) (whole_some by.start (ended_lines bytes) history last to.2);
    }
takes_some ended.TooLong stop by source source' history bytes left last to =
    record {
      few = past_few bytes to.0 to.1 to.2 to.3;
      taken = kept_taken source' bytes to.0 to.1 (λ lines. RunsSome by.start lines history last) to.2 (whole_some by.start (ended_lines to.0) history last to.4);
    }
takes_some ended.LogFull stop by source source' history bytes left last to =
    record {
      few = omega (arith, to.0);
      taken = taken_as source' bytes (λ lines. RunsAsking by.start lines history last) (λ lines. RunsSome by.start lines history last) (λ lines run. asking_some by.start lines history last run) to.1;
    }
takes_some ended.WriteFault stop by source source' history bytes left last to = absurd to
takes_some ended.NoMemory stop by source source' history bytes left last to = record { few = omega (arith, to.0); taken = some_taken by.start source' history bytes left last to.1 }

pub is_legal : (start : Start) (source : SourceState) (history : HistoryState) (bytes : List ℕ) (last : Whole) → TakesSome start source history bytes last →
    IsLegal start.grain (first_told start.disks) history.entries last
is_legal start source history bytes last some =
    IsLegal-partial start.grain stop_reading (first_told start.disks) last (map single some.taken.of.first) history.entries some.taken.of.holds

-- ---- how far it came

pub record CameFar (number half : ℕ) (far : Far) (call : Call) (bytes : List ℕ) (left : Agenda) (last : Whole) : Type 0 where
  pub few : length bytes ≤ input_limit
  pub lines : LinesBy far call last left bytes
  pub costs : CallsBy number half far call.history.entries last left

abbrev pub CallTo : ℕ → ℕ → Ended → Option NotedStop → Call → List ℕ → Agenda → Whole → Type 0
CallTo number half e stop call bytes left last = CameTo e stop (goes_by number half call.disks) call.source call.source' call.history bytes left last

module _ (number half : ℕ) (call : Call) (bytes : List ℕ) (left : Agenda) (last : Whole) where
  came_as : (is far : Far) → is ≡ far → CameFar number half is call bytes left last → CameFar number half far call bytes left last
  came_as is far same came = subst (λ (f : Far). CameFar number half f call bytes left last) same came

  came_stopped : (stop : Option NotedStop) (far : Far) → far_of number ended.NoMemory stop ≡ Ok far → CallTo number half ended.NoMemory stop call bytes left last → CameFar number half far call bytes left last
  came_stopped None far is to = absurd (cc is)
  came_stopped (Some LogFull) far is to = absurd (cc is)
  came_stopped (Some NoMemory) far is to = absurd (cc is)
  came_stopped (Some MetaFailed) far is to =
      let same : ToCall number ≡ far = cc is in
      came_as (ToCall number) far same record { few = to.0; lines = to.1; costs = (refl, inr to.2) }
  came_stopped (Some MetaFull) far is to =
      let same : ToFull ≡ far = cc is in
      came_as ToFull far same record { few = to.0; lines = to.1; costs = inr to.2 }

  pub came_far : (e : Ended) (stop : Option NotedStop) (far : Far) → far_of number e stop ≡ Ok far → CallTo number half e stop call bytes left last → CameFar number half far call bytes left last
  came_far ended.Done stop far is to =
      let same : ToEnd ≡ far = cc is in
      came_as ToEnd far same record { few = to.1; lines = (to.0, to.2, to.3); costs = to.4 }
  came_far ended.Unended stop far is to = absurd to
  came_far ended.ReadFault stop far is to = absurd (cc is)
  came_far ended.TooLong stop far is to = absurd (cc is)
  came_far ended.LogFull stop far is to = absurd (cc is)
  came_far ended.WriteFault stop far is to = absurd to
  came_far ended.NoMemory stop far is to = came_stopped stop far is to
