-- Where a step stopped: the first entries of its line are logged, and with them what is told may be recovered.
use Rattle.std.proofs.Common.{◌≡◌, ℕ, ◌≤◌, Bool, Option, Some, None, List, [], ◌∷◌, length, false, Err, Result, refl, sym, ap, subst, ◌∙◌, arith}
use Rattle.std.specs.Prelude.{IsErrOf}
use Rattle.std.proofs.lemmas.List.{append-nil}
use Rattle.fc_agenda.specs.Goes.{Goes, GoesAsking, stays}
use Rattle.fc_base.specs.declared.command.Line.{Line}
use Rattle.fc_base.specs.declared.fault.WordFault.{WordFault}
use Rattle.fc_base.specs.declared.request.Request.{Request}
use Rattle.fc_base.specs.declared.size.GrainSize.{GrainSize}
use Rattle.fc_blocks.specs.Segments.{single}
use Rattle.fc_changed.specs.Row.{Row}
use Rattle.fc_entry.specs.HistoryState.{HistoryState}
use Rattle.fc_entry.specs.declared.entry.Entry.{Entry}
use Rattle.fc_format.specs.Halves.{recovered}
use Rattle.fc_legal.specs.Added.{Adds, IsOf}
use Rattle.fc_legal.specs.Agenda.{Agenda, Asks, Reading, Session, session_rules}
use Rattle.fc_legal.specs.Whole.{Whole}
use Rattle.fc_marks.specs.Meter.{Meter}
use Rattle.fc_marks.specs.declared.error.NotedStop.TheVariants.{LogFull, NoMemory, MetaFailed, MetaFull}
use Rattle.fc_marks.specs.declared.error.NotedStop.{NotedStop}
use Rattle.fc_meta.specs.Answers.{more_calls}
use Rattle.fc_meta.specs.States.{disk_of, room_of}
use Rattle.fc_noted.proofs.Calling.{calls_whole, stops_behind}
use Rattle.fc_noted.proofs.Calls.{more_grow}
use Rattle.fc_noted.proofs.Counting.{has_counted}
use Rattle.fc_noted.proofs.InHand.{doing_counted}
use Rattle.fc_noted.proofs.Lines.{Brings, Comes, brings_still}
use Rattle.fc_noted.proofs.Metering.{calls_grow, full_before}
use Rattle.fc_noted.proofs.Moments.{doing_found, resting_found}
use Rattle.fc_noted.proofs.Resting.{rests_safe}
use Rattle.fc_noted.specs.Lines.{LineStops, ScriptStops}
use Rattle.fc_noted.specs.Making.{CountsInto, KeepsCount, StepMade, done}
use Rattle.fc_noted.specs.Metered.{GoesInto, Metered, after_actions}
use Rattle.fc_noted.specs.Noted.{IsAt, IsAtBy, IsNotedAt}
use Rattle.fc_noted.specs.Stopping.{AsksSome, Halts, HasStopped, IsAskedOf, IsAskedSoon, Leaves, LeftAt, LineHalts, MayBeRecovered, MoreFailed, OfMetadata, Paid}
use Rattle.fc_noted.specs.declared.noted.Noted.{Noted}
use Rattle.fc_noted.specs.declared.noted.UnderWay.{UnderWay}
use Rattle.fc_script.specs.Passage.{GoesOn}
use Rattle.fc_script.specs.Script.{agenda_of}
use Rattle.fc_script.specs.declared.script.Script.{Script}
use Rattle.fc_stands.specs.Store.{StoreView}

-- what a script that is reached asks next is asked soon
asked_soon : (grain : GrainSize) (w : Whole) (a : Agenda) (asking : Script) (o : Option Request) → GoesOn grain w a (agenda_of grain asking) → IsAskedOf grain w o asking → IsAskedSoon grain w a o
asked_soon grain w a asking None goes asked = tt
asked_soon grain w a asking (Some r) goes asked = (agenda_of grain asking, goes, asked)

module _ {C D : Type 0} (seen : D → List ℕ) (may_leave : D → List ℕ → Type 0) (moment : D → ℕ) (left_since : D → ℕ → List ℕ → Type 0) (fault_count calls : D → ℕ) where
  of_by : (o : Option UnderWay) (n : Noted C D) (history : HistoryState) (w : Whole) (least : List Row) → IsAtBy seen may_leave o n history w least → IsOf w history
  of_by None n history w least at = at.told.1
  of_by (Some way) n history w least d = d.told.1

  -- The entries of a history cost so much, which was counted, and nothing passed the half.
  abbrev Costs : Noted C D → List Entry → Whole → Meter → Type 0
  Costs n entries w meter = Metered n.store.control.grain (room_of seen n.meta) entries w meter × (meter.full ≡ None) × (more_calls meter.calls 0 ≤ n.calls)

  costs_by : (o : Option UnderWay) (n : Noted C D) (history : HistoryState) (w : Whole) (least : List Row) → IsAtBy seen may_leave o n history w least → (meter : Meter) × Costs n history.entries w meter
  costs_by None n history w least at = let c = at.counts in (c.meter, (c.metered, c.is.fits, let e = c.calls in omega (arith, e)))
  costs_by (Some way) n history w least d =
      let c = d.counts in
      let half : ℕ = room_of seen n.meta in
      let here : n.store.control.grain ≡ d.begun.control.grain = ap (λ (s : StoreView). s.control.grain) d.since in
      let l = more_grow c.before.calls (after_actions half c.before c.actions).calls (calls_grow half c.before c.actions) in
      let e = c.calls in (
        c.before,
        (subst (λ (g : GrainSize). Metered g half history.entries w c.before) (sym here) c.metered, full_before half c.before c.actions c.is.fits, omega (arith, l, e)),
      )

  module _ (old mid : Noted C D) (before between : HistoryState) (comes : Comes seen may_leave old before mid between) (so_far : KeepsCount seen fault_count calls done old mid) (new : Noted C D) (after : HistoryState) where
    abbrev grain : GrainSize
    grain = old.store.control.grain

    abbrev begun : Agenda
    begun = agenda_of old.store.control.grain old.script

    abbrev To : Whole → Whole → Type 0
    To w m = Brings old.store.control.grain (agenda_of old.store.control.grain old.script) w (agenda_of old.store.control.grain mid.script) m before between

    -- what the script is left to ask
    abbrev left : Agenda
    left = agenda_of old.store.control.grain mid.script

    leaves_there : (m : Whole) (least : List Row) → HasStopped may_leave mid new m least → Leaves old.store.control.grain may_leave new m (agenda_of old.store.control.grain mid.script)
    leaves_there m least s =
        record {
          volumes = s.volumes;
          counted = s.counted;
          found = λ c may.
              let l = s.leaves c may in
              let r : MayBeRecovered grain mid.script new.named new.store.lanes m least l.0 = subst (λ (g : GrainSize). MayBeRecovered g mid.script new.named new.store.lanes m least l.0) comes.grain l.2 in
              (l.0, l.1, r.sound, λ back hold. (least, r.request, asked_soon grain m left r.asking r.request r.reached r.asked, r.found back hold));
        }

    up_to_there : (w m : Whole) → To w m → after ≡ between → (read : Reading) →
        Adds before after (λ more. Goes (session_rules old.store.control.grain read) (agenda_of old.store.control.grain old.script) w more (agenda_of old.store.control.grain mid.script) m)
    up_to_there w m to same read = record { more = to.more; entries = ap (λ (h : HistoryState). h.entries) same ∙ to.entries; are = to.are read }

    asking_there : (w m : Whole) → To w m → after ≡ between → AsksSome mid.store.control.grain mid.script m → (read : Reading) →
        Adds before after (λ more. GoesAsking (session_rules old.store.control.grain read) (agenda_of old.store.control.grain old.script) w more m)
    asking_there w m to same asks read =
        let a : AsksSome grain mid.script m = subst (λ (g : GrainSize). AsksSome g mid.script m) comes.grain asks in
        let on = brings_still grain begun (agenda_of grain mid.script) (agenda_of grain a.0) w m before between to after same a.2 in
        record {
          more = on.more;
          entries = on.entries;
          are = record { end = agenda_of grain a.0; goes = on.are read; wanted = (0, a.1); asks = a.3 };
        }

    full_there : after ≡ between → length between.entries ≤ 262144 → 262144 ≤ length between.entries → length after.entries ≡ 262144
    full_there same room full = ap (λ (h : HistoryState). length h.entries) same ∙ omega (arith, room, full)

    still_of : (m : Whole) → after ≡ between → IsOf m between → IsOf m after
    still_of m same is = subst (λ (h : HistoryState). IsOf m h) (sym same) is

    -- ---- by why it stopped

    -- what the entries cost, and how far it went into what is asked next, where metadata failed or is full
    abbrev Left : NotedStop → Whole → Type 0
    Left stop m =
        (meter : Meter) × Paid seen fault_count calls old.store.control.grain old new m after.entries meter
        × OfMetadata stop (LeftAt seen calls old.store.control.grain stop old new m (agenda_of old.store.control.grain mid.script) meter)

    halted_by : (stop : NotedStop) (read : Reading) (w m : Whole) (least : List Row) → To w m → IsOf m between → (IsErrOf {T = Bool} (Err stop) LogFull → 262144 ≤ length between.entries) →
        (IsErrOf {T = Bool} (Err stop) LogFull → AsksSome mid.store.control.grain mid.script m) → Left stop m → after ≡ between → HasStopped may_leave mid new m least →
        Halts seen may_leave fault_count calls old.store.control.grain read stop (agenda_of old.store.control.grain old.script) old new w before after
    halted_by LogFull read w m least to is full asks costs same s =
        (full_there same comes.can.room (full refl), (m, still_of m same is, (left, leaves_there m least s), asking_there w m to same (asks refl) read))
    halted_by NoMemory read w m least to is full asks costs same s = (m, left, still_of m same is, leaves_there m least s, costs, up_to_there w m to same read)
    halted_by MetaFailed read w m least to is full asks costs same s = (m, left, still_of m same is, leaves_there m least s, costs, up_to_there w m to same read)
    halted_by MetaFull read w m least to is full asks costs same s = (m, left, still_of m same is, leaves_there m least s, costs, up_to_there w m to same read)

    -- what they cost

    paid_there : (m : Whole) (meter : Meter) → Costs mid between.entries m meter → room_of seen new.meta ≡ room_of seen mid.meta → after ≡ between →
        Paid seen fault_count calls old.store.control.grain old new m after.entries meter
    paid_there m meter costs size same =
        let there : Metered grain (room_of seen mid.meta) between.entries m meter = subst (λ (g : GrainSize). Metered g (room_of seen mid.meta) between.entries m meter) comes.grain costs.0 in
        let here : Metered grain (room_of seen new.meta) between.entries m meter = subst (λ (half : ℕ). Metered grain half between.entries m meter) (sym size) there in
        record {
          metered = subst (λ (h : HistoryState). Metered grain (room_of seen new.meta) h.entries m meter) (sym same) here;
          fits = costs.1;
          unfailed = so_far.counted;
          disk = disk_of mid.meta;
          called = calls_whole seen fault_count calls old mid so_far;
          quiet = so_far.whole.1;
          before = subst (λ (n : ℕ). more_calls meter.calls 0 ≤ n) so_far.count costs.2;
        }

    left_there : (stop : NotedStop) (m : Whole) → room_of seen new.meta ≡ room_of seen mid.meta → (c : CountsInto seen calls stop mid new between m) →
        LeftAt seen calls old.store.control.grain stop old new m (agenda_of old.store.control.grain mid.script) c.meter
    left_there stop m size c =
        let Go : GrainSize → Type 0 = λ g. GoesInto g (room_of seen mid.meta) m c.meter c.request c.into in
        record {
          request = c.request;
          asked = (
            agenda_of grain c.asking,
            subst (λ (g : GrainSize). GoesOn g m (agenda_of g mid.script) (agenda_of g c.asking)) comes.grain c.reached,
            subst (λ (g : GrainSize). Asks g (agenda_of g c.asking) m (0, c.request)) comes.grain c.asked,
          );
          into = c.into;
          goes = subst (λ (half : ℕ). GoesInto grain half m c.meter c.request c.into) (sym size) (subst Go comes.grain c.goes);
          stops = stops_behind seen fault_count calls stop old mid new c.into so_far c.stops;
        }

    left_into : (stop : NotedStop) (m : Whole) → room_of seen new.meta ≡ room_of seen mid.meta → after ≡ between → CountsInto seen calls stop mid new between m →
        (meter : Meter) × Paid seen fault_count calls old.store.control.grain old new m after.entries meter
        × LeftAt seen calls old.store.control.grain stop old new m (agenda_of old.store.control.grain mid.script) meter
    left_into stop m size same c = (c.meter, paid_there m c.meter (c.metered, c.fits, c.paid) size same, left_there stop m size c)

    paid_by : (m : Whole) (least : List Row) → IsAt seen may_leave mid between m least → room_of seen new.meta ≡ room_of seen mid.meta → after ≡ between →
        (meter : Meter) × Paid seen fault_count calls old.store.control.grain old new m after.entries meter
    paid_by m least at size same = let p = costs_by mid.under_way mid between m least at in (p.0, paid_there m p.0 p.1 size same)

    left_by : (stop : NotedStop) → StepMade seen may_leave moment left_since calls (Err stop) mid new between after → (m : Whole) (least : List Row) → IsAt seen may_leave mid between m least → room_of seen new.meta ≡ room_of seen mid.meta →
        after ≡ between → Left stop m
    left_by MetaFailed made m least at size same = left_into MetaFailed m size same (made.into m least at)
    left_by MetaFull made m least at size same = left_into MetaFull m size same (made.into m least at)
    left_by LogFull made m least at size same = let p = paid_by m least at size same in (p.0, p.1, tt)
    left_by NoMemory made m least at size same = let p = paid_by m least at size same in (p.0, p.1, tt)

    pub halted : (stop : NotedStop) → StepMade seen may_leave moment left_since calls (Err stop) mid new between after →
        (IsErrOf {T = Bool} (Err stop) LogFull → (m : Whole) (least : List Row) → IsAt seen may_leave mid between m least → AsksSome mid.store.control.grain mid.script m) →
        room_of seen new.meta ≡ room_of seen mid.meta → ScriptStops seen may_leave fault_count calls stop old new before after
    halted stop made asks size read w least there =
        let m = comes.came w least there in
        let s = made.stopped m.0 m.1 m.2 in
        halted_by stop read w m.0 m.1 m.3 (of_by mid.under_way mid between m.0 m.1 m.2) made.full (λ full. asks full m.0 m.1 m.2) (left_by stop made m.0 m.1 m.2 size s.0) s.0 s.1

    -- it is within the limit
    pub halted_limit : (stop : NotedStop) → StepMade seen may_leave moment left_since calls (Err stop) mid new between after → length after.entries ≤ 262144
    halted_limit stop made =
        let can = comes.can in
        subst (λ (h : HistoryState). length h.entries ≤ 262144) (sym (made.stopped can.w can.least can.at).0) can.room

  -- ---- the steps are too many

  stops_by : (o : Option UnderWay) (n : Noted C D) (history : HistoryState) (w : Whole) (least : List Row) → IsAtBy seen may_leave o n history w least → length history.entries ≤ 262144 →
      HasStopped may_leave n (record n { live = false }) w least
  stops_by None n history w least at room =
      let few : w.entries ≤ 262144 = subst (λ (k : ℕ). k ≤ 262144) (sym at.told.1.entries) room in
      record {
        volumes = at.keeps.volumes;
        counted = has_counted n.store w at.told.0 few;
        leaves = λ c may. (at.keeps.image, ap recovered (at.keeps.rests.durable c may) ∙ at.keeps.says, resting_found seen may_leave n history w least at few);
      }
  stops_by (Some way) n history w least d room =
      record {
        volumes = d.keeps.volumes;
        counted = doing_counted seen may_leave n way history w least d;
        leaves = λ c may. (d.keeps.image, ap recovered (d.keeps.rests.durable c may) ∙ d.keeps.says, doing_found seen may_leave n way history w least d);
      }

  pub halted_on : (old mid : Noted C D) (before between : HistoryState) → Comes seen may_leave old before mid between → KeepsCount seen fault_count calls done old mid →
      ScriptStops seen may_leave fault_count calls NoMemory old (record mid { live = false }) before between
  halted_on old mid before between comes so_far read w least there =
      let m = comes.came w least there in
      let now : Noted C D = record mid { live = false } in
      let p = paid_by old mid before between comes so_far now between m.0 m.1 m.2 refl refl in
      halted_by old mid before between comes so_far now between NoMemory read w m.0 m.1 m.3 (of_by mid.under_way mid between m.0 m.1 m.2) (λ full. absurd cc) (λ full. absurd cc)
      (p.0, p.1, tt) refl (stops_by mid.under_way mid between m.0 m.1 m.2 comes.can.room)

-- ---- between two entries, whatever is asked

pub leaves_resting : {C D : Type 0} (seen : D → List ℕ) (may_leave : D → List ℕ → Type 0) (n : Noted C D) (history : HistoryState) (w : Whole) (least : List Row) (a : Agenda) → IsNotedAt seen may_leave n history w least →
    length history.entries ≤ 262144 → Leaves n.store.control.grain may_leave n w a
leaves_resting seen may_leave n history w least a at room =
    let few : w.entries ≤ 262144 = subst (λ (k : ℕ). k ≤ 262144) (sym at.told.1.entries) room in
    record {
      volumes = at.keeps.volumes;
      counted = has_counted n.store w at.told.0 few;
      found = λ c may. (
        at.keeps.image,
        ap recovered (at.keeps.rests.durable c may) ∙ at.keeps.says,
        at.keeps.sound,
        λ back hold. (least, None, tt, rests_safe seen may_leave n history w least None (MoreFailed w n.store.lanes) at back few hold),
      );
    }

-- ---- a line that isn't taken up

pub not_taken_up : {C D : Type 0} (seen : D → List ℕ) (may_leave : D → List ℕ → Type 0) (fault_count calls : D → ℕ) (n same : Noted C D) (history : HistoryState) → same ≡ n → length history.entries ≤ 262144 →
    (line : Result Line WordFault) → LineStops seen may_leave fault_count calls line NoMemory n (record same { live = false }) history history
not_taken_up {C} {D} seen may_leave fault_count calls n same history is room line read bytes w least so at =
    subst (λ (x : Noted C D). LineHalts seen may_leave fault_count calls read NoMemory n (record x { live = false }) bytes w history history) (sym is) (
      w,
      Session (single bytes ∷ []),
      at.told.1,
      record { volumes = leaves.volumes; counted = leaves.counted; found = leaves.found },
      (at.counts.meter, paid, tt),
      record { more = []; entries = sym (append-nil history.entries); are = stays },
    )
  where
    leaves : Leaves n.store.control.grain may_leave n w (Session (single bytes ∷ []))
    leaves = leaves_resting seen may_leave n history w least (Session (single bytes ∷ [])) at room

    paid : Paid seen fault_count calls n.store.control.grain n (record n { live = false }) w history.entries at.counts.meter
    paid = record {
      metered = at.counts.metered;
      fits = at.counts.is.fits;
      unfailed = 0;
      disk = disk_of n.meta;
      called = refl;
      quiet = refl;
      before = let e = at.counts.calls in let le : more_calls at.counts.meter.calls 0 ≤ n.calls = omega (arith, e) in le;
    }
