-- A line answered step by step: one step more, and an end.
use Rattle.std.proofs.Common.{◌≡◌, ℕ, ◌≤◌, Bool, true, false, Option, Some, None, List, [], ◌∷◌, ◌++◌, length, append_assoc, Result, Ok, refl, sym, ap, subst, ◌∙◌, ◌⊎◌, inl, inr, arith}
use Rattle.std.proofs.lemmas.List.{append-nil, length-append}
use Rattle.std.specs.Prelude.{◌↔◌, Err, IfErr, IsTrue, OnOk}
use Rattle.fc_agenda.specs.Goes.{Goes, GoesAsking, GoesToEnd, answers, passes, stays}
use Rattle.fc_agenda.proofs.Going.{Goes-append}
use Rattle.fc_base.specs.declared.command.Line.{Line}
use Rattle.fc_base.specs.declared.fault.WordFault.{WordFault}
use Rattle.fc_base.specs.declared.size.GrainSize.{GrainSize}
use Rattle.fc_blocks.specs.Segments.{single}
use Rattle.fc_changed.specs.Row.{Row}
use Rattle.fc_entry.specs.HistoryState.{HistoryState}
use Rattle.fc_entry.specs.declared.entry.Entry.{Entry}
use Rattle.fc_legal.specs.Added.{Adds}
use Rattle.fc_legal.specs.Agenda.{Agenda, Asks, Reading, Session, line_read, session_rules}
use Rattle.fc_legal.specs.Whole.{Whole}
use Rattle.fc_marks.specs.declared.error.NotedStop.TheVariants.{LogFull, NoMemory, MetaFailed, MetaFull}
use Rattle.fc_marks.specs.declared.error.NotedStop.{NotedStop}
use Rattle.fc_marks.specs.Meter.{Meter}
use Rattle.fc_meta.specs.Answers.{more_calls}
use Rattle.fc_meta.specs.States.{disk_of}
use Rattle.fc_meta.specs.declared.meta.Meta.{Meta}
use Rattle.fc_noted.proofs.Calling.{calls_behind, stops_behind}
use Rattle.fc_noted.proofs.KeepingLanes.{lanes_still}
use Rattle.fc_noted.proofs.MeteringNoted.{no_calls}
use Rattle.fc_noted.specs.Lines.{LineEnds, LineStops, Ran, ScriptEnds, ScriptStops}
use Rattle.fc_noted.specs.Making.{KeepLanes, done}
use Rattle.fc_noted.specs.Stopping.{Halts, LeftAt, Paid}
use Rattle.fc_noted.specs.Noted.{CanStep, GoesOnTo, IsAt, IsAtBy, IsNotedAt, Logs, Stays}
use Rattle.fc_noted.specs.declared.noted.Noted.{Noted}
use Rattle.fc_noted.specs.declared.noted.UnderWay.{UnderWay}
use Rattle.fc_script.specs.Passage.{GoesOn}
use Rattle.fc_script.specs.Script.{agenda_of}
use Rattle.fc_stands.specs.Store.{StandsFor, StoreView}
use Rattle.fc_steps.specs.Asking.{request_of}

-- ---- histories

-- Entries brought an agenda from what was told to what is told.
abbrev pub Brings : GrainSize → Agenda → Whole → Agenda → Whole → HistoryState → HistoryState → Type 0
Brings grain a w b next before after = Adds before after (λ more. (read : Reading) → Goes (session_rules grain read) a w more b next)

module _ (grain : GrainSize) (a b c : Agenda) (w mid : Whole) (x y : HistoryState) (first : Brings grain a w b mid x y) where
  -- It went on without an entry.
  pub brings_still : (z : HistoryState) → z ≡ y → GoesOn grain mid b c → Brings grain a w c mid x z
  brings_still z same on = record {
    more = first.more;
    entries = ap (λ (h : HistoryState). h.entries) same ∙ first.entries;
    are = λ read.
        subst (λ (es : List Entry). Goes (session_rules grain read) a w es c mid) (append-nil first.more)
        (Goes-append (session_rules grain read) a b c w mid mid first.more [] (first.are read) (on read));
  }

  -- Or by one.
  pub brings_one : (z : HistoryState) (entry : Entry) (last : Whole) → z ≡ record y { entries = y.entries ++ entry ∷ [] } →
      ((read : Reading) → Goes (session_rules grain read) b mid (entry ∷ []) c last) → Brings grain a w c last x z
  brings_one z entry last pushed on = record {
    more = first.more ++ entry ∷ [];
    entries =
        ap (λ (h : HistoryState). h.entries) pushed ∙ (ap (λ (es : List Entry). es ++ entry ∷ []) first.entries ∙ append_assoc x.entries first.more (entry ∷ []));
    are = λ read. Goes-append (session_rules grain read) a b c w mid last first.more (entry ∷ []) (first.are read) (on read);
  }

-- ---- steps

module _ {C D : Type 0} (seen : D → List ℕ) (may_leave : D → List ℕ → Type 0) where
  -- Where the steps so far brought it: to something that is told, and the script goes on from there.
  abbrev pub Came : Noted C D → HistoryState → Noted C D → HistoryState → Type 0
  Came old before now after =
      (w : Whole) (least : List Row) → IsNotedAt seen may_leave old before w least →
      (next : Whole) × (least_next : List Row) × IsAt seen may_leave now after next least_next
      × Brings old.store.control.grain (agenda_of old.store.control.grain old.script) w (agenda_of old.store.control.grain now.script) next before after

  -- And another step may be made.
  pub record Comes (old : Noted C D) (before : HistoryState) (now : Noted C D) (after : HistoryState) : Type 0 where
    pub can : CanStep seen may_leave now after
    pub grain : now.store.control.grain ≡ old.store.control.grain
    pub came : Came old before now after

  -- What one step made, by whether something was left.
  abbrev pub Made : Bool → Noted C D → HistoryState → Noted C D → HistoryState → Type 0
  Made more mid between new after = (w : Whole) (least : List Row) → IsAt seen may_leave mid between w least → GoesOnTo seen may_leave more w least mid between new after

  at_first : (n : Noted C D) (history : HistoryState) (w : Whole) (least : List Row) → IsNotedAt seen may_leave n history w least → IsAt seen may_leave n history w least
  at_first n history w least at = subst (λ (o : Option UnderWay). IsAtBy seen may_leave o n history w least) (sym at.idle) at

  pub comes_first : (n : Noted C D) (history : HistoryState) (w : Whole) (least : List Row) → IsNotedAt seen may_leave n history w least → n.live ≡ true → length history.entries ≤ 262144 →
      Comes n history n history
  comes_first n history w least at live room = record {
    can = record { live = live; w = w; least = least; at = at_first n history w least at; room = room };
    grain = refl;
    came = λ v l there. (v, l, at_first n history v l there, record { more = []; entries = sym (append-nil history.entries); are = λ read. stays });
  }

  module _ (old mid : Noted C D) (before between : HistoryState) (comes : Comes old before mid between) (new : Noted C D) (after : HistoryState) where
    abbrev begun : Agenda
    begun = agenda_of old.store.control.grain old.script

    -- what is told, and where the script is, behind what was told before the step
    abbrev On : Whole → Type 0
    On w = (next : Whole) × (least_next : List Row) × IsAt seen may_leave new after next least_next
        × Brings old.store.control.grain (agenda_of old.store.control.grain old.script) w (agenda_of old.store.control.grain new.script) next before after

    abbrev To : Whole → Whole → Type 0
    To w m = Brings old.store.control.grain (agenda_of old.store.control.grain old.script) w (agenda_of old.store.control.grain mid.script) m before between

    stayed : (w m : Whole) (least : List Row) → To w m → Stays seen may_leave m least between mid new after → On w
    stayed w m least to s =
        let on : GoesOn old.store.control.grain m (agenda_of old.store.control.grain mid.script) (agenda_of old.store.control.grain new.script) =
        subst (λ (g : GrainSize). GoesOn g m (agenda_of g mid.script) (agenda_of g new.script)) (s.grain ∙ comes.grain) s.goes in
        (m, least, s.at, brings_still old.store.control.grain begun (agenda_of old.store.control.grain mid.script) (agenda_of old.store.control.grain new.script) w m before between to after s.same on)

    logged : (w m : Whole) (least : List Row) → To w m → Logs seen may_leave m least between mid new after → On w
    logged w m least to l =
        let One : GrainSize → Type 0 = λ g. (read : Reading) → Goes (session_rules g read) (agenda_of g mid.script) m (l.entry ∷ []) (agenda_of g new.script) l.next in
        let one : One mid.store.control.grain = λ read.
        Goes-append (session_rules mid.store.control.grain read) (agenda_of mid.store.control.grain mid.script) (agenda_of mid.store.control.grain l.asking) (agenda_of mid.store.control.grain new.script)
        m m l.next [] (l.entry ∷ []) (l.reached read) (answers l.answer.asked l.answer.right (l.left.goes read)) in (
          l.next,
          l.least_next,
          l.at,
          brings_one old.store.control.grain begun (agenda_of old.store.control.grain mid.script) (agenda_of old.store.control.grain new.script) w m before between to after l.entry l.next l.pushed
              (subst One comes.grain one),
        )

    went : (w m : Whole) (least : List Row) → To w m → Stays seen may_leave m least between mid new after ⊎ Logs seen may_leave m least between mid new after → On w
    went w m least to (inl s) = stayed w m least to s
    went w m least to (inr l) = logged w m least to l

    goes : Made true mid between new after → Comes old before new after
    goes made =
        let c = comes.can in
        by (made c.w c.least c.at)
      where
        came_on : Came old before new after
        came_on w least at = let m = comes.came w least at in went w m.0 m.1 m.3 (made m.0 m.1 m.2)

        by : Stays seen may_leave comes.can.w comes.can.least between mid new after ⊎ Logs seen may_leave comes.can.w comes.can.least between mid new after → Comes old before new after
        by (inl s) = record {
          can = record {
            live = s.live;
            w = comes.can.w;
            least = comes.can.least;
            at = s.at;
            room = subst (λ (h : HistoryState). length h.entries ≤ 262144) (sym s.same) comes.can.room;
          };
          grain = s.grain ∙ comes.grain;
          came = came_on;
        }
        by (inr l) = record {
          can = record {
            live = l.live;
            w = l.next;
            least = l.least_next;
            at = l.at;
            room = subst (λ (h : HistoryState). length h.entries ≤ 262144) (sym l.pushed) (omega (arith, l.room, length-append between.entries (l.entry ∷ [])));
          };
          grain = l.grain ∙ comes.grain;
          came = came_on;
        }

    -- One step more.
    pub comes_on : {more : Bool} → more ≡ true → Made more mid between new after → Comes old before new after
    comes_on is made = goes (subst (λ (b : Bool). Made b mid between new after) is made)

  -- ---- an end

  -- Nothing that is under way is asked any more.
  rests_by : (o : Option UnderWay) (n : Noted C D) (history : HistoryState) (w : Whole) (least : List Row) → IsAtBy seen may_leave o n history w least →
      agenda_of n.store.control.grain n.script ≡ Session [] → IsNotedAt seen may_leave n history w least
  rests_by None n history w least at over = at
  rests_by (Some way) n history w least d over =
      let over_then : agenda_of d.begun.control.grain n.script ≡ Session [] =
      subst (λ (g : GrainSize). agenda_of g n.script ≡ Session []) (ap (λ (s : StoreView). s.control.grain) d.since) over in
      let none : Asks d.begun.control.grain (Session []) w (0, request_of way.doing.steps.ask) =
      subst (λ (a : Agenda). Asks d.begun.control.grain a w (0, request_of way.doing.steps.ask)) over_then d.asked in
      absurd (cc none)

  module _ (old mid : Noted C D) (before between : HistoryState) (comes : Comes old before mid between) (new : Noted C D) (after : HistoryState) {more : Bool} (is : more ≡ false) (made : Made more mid between new after) where
    ends : Made false mid between new after
    ends = subst (λ (b : Bool). Made b mid between new after) is made

    -- All that was asked is answered.
    pub all_made : ScriptEnds seen may_leave old new before after
    all_made read w least there =
        let m = comes.came w least there in
        let s = ends m.0 m.1 m.2 in
        let on = stayed old mid before between comes new after w m.0 m.1 m.3 s.0 in
        let grain : GrainSize = old.store.control.grain in
        let over : agenda_of grain new.script ≡ Session [] = subst (λ (g : GrainSize). agenda_of g new.script ≡ Session []) (s.0.grain ∙ comes.grain) s.1 in (
          on.0,
          on.1,
          rests_by new.under_way new after on.0 on.1 on.2 s.1,
          record { more = on.3.more; entries = on.3.entries; are = record { end = agenda_of grain new.script; goes = on.3.are read; over = over } },
        )

    -- Which is within the limit, and another line may be asked.
    pub all_over : (new.store.control.grain ≡ old.store.control.grain) × (new.live ≡ true) × (length after.entries ≤ 262144)
    all_over =
        let can = comes.can in
        let s = (ends can.w can.least can.at).0 in
        (s.grain ∙ comes.grain, s.live, subst (λ (h : HistoryState). length h.entries ≤ 262144) (sym s.same) can.room)

-- ---- a line

-- It asks, once it is read, what its script asks.
module _ (grain : GrainSize) (read : Reading) (bytes : List ℕ) (w : Whole) (line : Result Line WordFault) (is : read w.books bytes ≡ line) (a : Agenda) (goes : GoesOn grain w (line_read grain w line []) a) where
  line_goes : (b : Agenda) (more : List Entry) (last : Whole) → Goes (session_rules grain read) a w more b last → Goes (session_rules grain read) (Session (single bytes ∷ [])) w more b last
  line_goes b more last on =
      passes (ap (λ (l : Result Line WordFault). Some (line_read grain w l [])) is)
      (Goes-append (session_rules grain read) (line_read grain w line []) a b w w last [] more (goes read) on)

  pub line_to_end : (before after : HistoryState) (last : Whole) → Adds before after (λ more. GoesToEnd (session_rules grain read) a w more last) →
      Adds before after (λ more. GoesToEnd (session_rules grain read) (Session (single bytes ∷ [])) w more last)
  line_to_end before after last adds =
      record {
        more = adds.more;
        entries = adds.entries;
        are = record { end = adds.are.end; goes = line_goes adds.are.end adds.more last adds.are.goes; over = adds.are.over };
      }

  line_up_to : (before after : HistoryState) (left : Agenda) (last : Whole) → Adds before after (λ more. Goes (session_rules grain read) a w more left last) →
      Adds before after (λ more. Goes (session_rules grain read) (Session (single bytes ∷ [])) w more left last)
  line_up_to before after left last adds = record { more = adds.more; entries = adds.entries; are = line_goes left adds.more last adds.are }

  line_asking : (before after : HistoryState) (last : Whole) → Adds before after (λ more. GoesAsking (session_rules grain read) a w more last) →
      Adds before after (λ more. GoesAsking (session_rules grain read) (Session (single bytes ∷ [])) w more last)
  line_asking before after last adds =
      record {
        more = adds.more;
        entries = adds.entries;
        are = record { end = adds.are.end; goes = line_goes adds.are.end adds.more last adds.are.goes; wanted = adds.are.wanted; asks = adds.are.asks };
      }

  pub line_halts : {C D : Type 0} (seen : D → List ℕ) (may_leave : D → List ℕ → Type 0) (fault_count calls : D → ℕ) (stop : NotedStop) (old new : Noted C D) (before after : HistoryState) →
      Halts seen may_leave fault_count calls grain read stop a old new w before after → Halts seen may_leave fault_count calls grain read stop (Session (single bytes ∷ [])) old new w before after
  line_halts seen may_leave fault_count calls LogFull old new before after h = (h.0, (h.1.0, h.1.1, h.1.2, line_asking before after h.1.0 h.1.3))
  line_halts seen may_leave fault_count calls NoMemory old new before after h = (h.0, h.1, h.2, h.3, h.4, line_up_to before after h.1 h.0 h.5)
  line_halts seen may_leave fault_count calls MetaFailed old new before after h = (h.0, h.1, h.2, h.3, h.4, line_up_to before after h.1 h.0 h.5)
  line_halts seen may_leave fault_count calls MetaFull old new before after h = (h.0, h.1, h.2, h.3, h.4, line_up_to before after h.1 h.0 h.5)

module _ {C D : Type 0} (seen : D → List ℕ) (may_leave : D → List ℕ → Type 0) (fault_count calls : D → ℕ) where
  -- By another noted store, whose metadata was called as often.
  module _ (first begun : Noted C D) (count : begun.calls ≡ first.calls) (same : begun.meta ≡ first.meta) (new : Noted C D) where
    paid_of : (grain : GrainSize) (next : Whole) (entries : List Entry) (meter : Meter) → Paid seen fault_count calls grain begun new next entries meter → Paid seen fault_count calls grain first new next entries meter
    paid_of grain next entries meter p = record {
      metered = p.metered;
      fits = p.fits;
      unfailed = p.unfailed;
      disk = p.disk;
      called = p.called ∙ ap (λ (m : Meta D). more_calls p.unfailed (calls (disk_of m))) same;
      quiet = p.quiet ∙ ap (λ (m : Meta D). fault_count (disk_of m)) same;
      before = subst (λ (n : ℕ). more_calls meter.calls 0 ≤ more_calls p.unfailed n) count p.before;
    }

    left_of : (grain : GrainSize) (stop : NotedStop) (next : Whole) (left : Agenda) (meter : Meter) → LeftAt seen calls grain stop begun new next left meter → LeftAt seen calls grain stop first new next left meter
    left_of grain stop next left meter l = record {
      request = l.request;
      asked = l.asked;
      into = l.into;
      goes = l.goes;
      stops = stops_behind seen fault_count calls stop first begun new l.into (no_calls seen fault_count calls done first begun count same (λ told. cc)) l.stops;
    }

    halts_of : (grain : GrainSize) (read : Reading) (stop : NotedStop) (a : Agenda) (w : Whole) (before after : HistoryState) →
        Halts seen may_leave fault_count calls grain read stop a begun new w before after → Halts seen may_leave fault_count calls grain read stop a first new w before after
    halts_of grain read LogFull a w before after h = h
    halts_of grain read NoMemory a w before after h = (h.0, h.1, h.2, h.3, (h.4.0, paid_of grain h.0 after.entries h.4.0 h.4.1, h.4.2), h.5)
    halts_of grain read MetaFailed a w before after h =
        (h.0, h.1, h.2, h.3, (h.4.0, paid_of grain h.0 after.entries h.4.0 h.4.1, left_of grain MetaFailed h.0 h.1 h.4.0 h.4.2), h.5)
    halts_of grain read MetaFull a w before after h =
        (h.0, h.1, h.2, h.3, (h.4.0, paid_of grain h.0 after.entries h.4.0 h.4.1, left_of grain MetaFull h.0 h.1 h.4.0 h.4.2), h.5)

  module _ (first begun : Noted C D) (before : HistoryState) (line : Result Line WordFault) (others : begun ≡ record first { script = begun.script })
      (goes : (w : Whole) → StandsFor first.store w → GoesOn first.store.control.grain w (line_read first.store.control.grain w line []) (agenda_of first.store.control.grain begun.script))
      (taken : (history : HistoryState) (w : Whole) (least : List Row) → IsNotedAt seen may_leave first history w least → IsNotedAt seen may_leave begun history w least)
      (new : Noted C D) (after : HistoryState) where
    same_grain : begun.store.control.grain ≡ first.store.control.grain
    same_grain = ap (λ (n : Noted C D). n.store.control.grain) others

    pub line_ends : ScriptEnds seen may_leave begun new before after → LineEnds seen may_leave line first new before after
    line_ends made read bytes w least is there =
        let m = made read w least (taken before w least there) in
        let grain : GrainSize = first.store.control.grain in (
          m.0,
          m.1,
          m.2,
          line_to_end grain read bytes w line is (agenda_of grain begun.script) (goes w there.told.0) before after m.0
              (subst (λ (g : GrainSize). Adds before after (λ more. GoesToEnd (session_rules g read) (agenda_of g begun.script) w more m.0)) same_grain m.3),
        )

    pub line_stops : (stop : NotedStop) → ScriptStops seen may_leave fault_count calls stop begun new before after → LineStops seen may_leave fault_count calls line stop first new before after
    line_stops stop halts read bytes w least is there =
        let grain : GrainSize = first.store.control.grain in
        line_halts grain read bytes w line is (agenda_of grain begun.script) (goes w there.told.0) seen may_leave fault_count calls stop first new before after
        (halts_of first begun (ap (λ (n : Noted C D). n.calls) others) (ap (λ (n : Noted C D). n.meta) others) new grain read stop (agenda_of grain begun.script) w before after
        (subst (λ (g : GrainSize). Halts seen may_leave fault_count calls g read stop (agenda_of g begun.script) begun new w before after) same_grain (halts read w least (taken before w least there))))

    -- whichever it was
    pub line_answered : (result : Result (Unit {0}) NotedStop) → OnOk result (ScriptEnds seen may_leave begun new before after) → OnOk result (LineEnds seen may_leave line first new before after)
    line_answered (Ok none) made = line_ends made
    line_answered (Err stop) made = tt

    pub line_halted : (result : Result (Unit {0}) NotedStop) → IfErr result (λ stop. ScriptStops seen may_leave fault_count calls stop begun new before after) → IfErr result (λ stop. LineStops seen may_leave fault_count calls line stop first new before after)
    line_halted (Ok none) halts = tt
    line_halted (Err stop) halts = line_stops stop halts

-- ---- whether or not it is answered

module _ {C D : Type 0} (seen : D → List ℕ) (fault_count calls : D → ℕ) where
  -- by the noted store that took it up
  pub ran_behind : (result : Result (Unit {0}) NotedStop) (first begun new : Noted C D) (history : HistoryState) → begun ≡ record first { script = begun.script } → Ran seen fault_count calls result begun new history →
      Ran seen fault_count calls result first new history
  ran_behind result first begun new history others r =
      let store : begun.store ≡ first.store = ap (λ (n : Noted C D). n.store) others in
      record {
        grain = subst (λ (s : StoreView). OnOk result (new.store.control.grain ≡ s.control.grain)) store r.grain;
        lanes = subst (λ (s : StoreView). KeepLanes s new.store) store r.lanes;
        counted =
            calls_behind seen fault_count calls result first begun new
            (no_calls seen fault_count calls done first begun (ap (λ (n : Noted C D). n.calls) others) (ap (λ (n : Noted C D). n.meta) others) (λ told. cc)) r.counted;
        live = r.live;
        stopped = r.stopped;
        limit = r.limit;
      }

  -- not taken up
  pub ran_not : (n same : Noted C D) (history : HistoryState) → same ≡ n → length history.entries ≤ 262144 → Ran seen fault_count calls (Err NoMemory) n (record same { live = false }) history
  ran_not n same history is room =
      record {
        grain = tt;
        lanes = lanes_still n.store same.store (ap (λ (x : Noted C D). x.store) is);
        counted =
            no_calls seen fault_count calls (Err NoMemory) n (record same { live = false }) (ap (λ (x : Noted C D). x.calls) is) (ap (λ (x : Noted C D). x.meta) is) (λ told. cc);
        live = tt;
        stopped = refl;
        limit = room;
      }

pub not_live : (live : Bool) → (IsTrue live ↔ ⊥) → live ≡ false
not_live true h = absurd (h.0 refl)
not_live false h = refl
