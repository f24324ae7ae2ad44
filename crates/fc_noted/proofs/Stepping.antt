-- What a step makes, by what is made with the entry that was taken out of the noted store; and behind an error no step may be made.
use Rattle.std.proofs.Common.{◌≡◌, ℕ, Bool, true, false, Option, Some, List, refl, sym, ap, subst, ◌∙◌, inl}
use Rattle.std.specs.Prelude.{Err, IsErrOf, Ok, Result, is_err}
use Rattle.fc_agenda.specs.Goes.{stays}
use Rattle.fc_base.specs.declared.size.GrainSize.{GrainSize}
use Rattle.fc_changed.specs.Row.{Row}
use Rattle.fc_entry.specs.HistoryState.{HistoryState}
use Rattle.fc_legal.specs.Agenda.{Asks}
use Rattle.fc_legal.specs.Whole.{Whole}
use Rattle.fc_marks.specs.declared.error.NotedStop.TheVariants.{LogFull}
use Rattle.fc_marks.specs.declared.error.NotedStop.{NotedStop}
use Rattle.fc_metadisk.specs.Disk.{LeavesOnly}
use Rattle.fc_noted.proofs.CallsMade.{of_metadata}
use Rattle.fc_noted.specs.Making.{CountsInto, StepMade, WayMade, done}
use Rattle.fc_noted.specs.Noted.{IsAt, IsAtBy, IsDoing}
use Rattle.fc_noted.specs.Stopping.{AsksSome, HasStopped, LeavesRecoverable, OfMetadata}
use Rattle.fc_noted.specs.declared.noted.Noted.{Noted}
use Rattle.fc_noted.specs.declared.noted.UnderWay.{UnderWay}
use Rattle.fc_script.specs.Passage.{GoesOn}
use Rattle.fc_script.specs.Script.{agenda_of}
use Rattle.fc_script.specs.declared.script.Script.{Script}
use Rattle.fc_stands.specs.Store.{StoreView}
use Rattle.fc_steps.specs.Asking.{request_of}

module _ {C D : Type 0} (seen : D → List ℕ) (may_leave : D → List ℕ → Type 0) (moment : D → ℕ) (left_since : D → ℕ → List ℕ → Type 0) (disk_calls : D → ℕ) (old new : Noted C D) (before after : HistoryState) where
  -- the entry that is under way is this one
  pub step_same : (result : Result Bool NotedStop) (o : Option UnderWay) → old.under_way ≡ o → StepMade seen may_leave moment left_since disk_calls result (record old { under_way = o }) new before after →
      StepMade seen may_leave moment left_since disk_calls result old new before after
  step_same result o e made =
      let same : old ≡ record old { under_way = o } = λ i. record old { under_way = e i } in
      subst (λ (z : Noted C D). StepMade seen may_leave moment left_since disk_calls result z new before after) (sym same) made

  pub step_failed : (result : Result Bool NotedStop) (given stop : NotedStop) (o : Option UnderWay) → result ≡ Err given → given ≡ stop → old.under_way ≡ o →
      StepMade seen may_leave moment left_since disk_calls (Err stop) (record old { under_way = o }) new before after → StepMade seen may_leave moment left_since disk_calls result old new before after
  step_failed result given stop o e is way made =
      subst (λ (z : Result Bool NotedStop). StepMade seen may_leave moment left_since disk_calls z old new before after) (sym (e ∙ ap (λ (z : NotedStop). Err z) is)) (step_same (Err stop) o way made)

  -- ---- an error

  abbrev Into : NotedStop → Noted C D → Type 0
  Into stop n = (w : Whole) (least : List Row) → IsAt seen may_leave old before w least → CountsInto seen disk_calls stop old n before w

  ended_into : (stop : NotedStop) → Into stop new → Into stop (record new { live = false })
  ended_into stop into w least at =
      let x = into w least at in
      let s = x.stops in
      record {
        request = x.request;
        asking = x.asking;
        reached = x.reached;
        asked = x.asked;
        meter = x.meter;
        metered = x.metered;
        fits = x.fits;
        paid = x.paid;
        into = x.into;
        goes = x.goes;
        stops = record { counted = s.counted; made = s.made; called = s.called; all = s.all; in_all = s.in_all; cause = s.cause };
      }

  ended : (stop : NotedStop) → StepMade seen may_leave moment left_since disk_calls (Err stop) old new before after → StepMade seen may_leave moment left_since disk_calls (Err stop) old (record new { live = false }) before after
  ended stop made =
      record {
        on = tt;
        any_moment = made.any_moment;
        stopped = λ w least at.
            let x = made.stopped w least at in
            (x.0, record { volumes = x.1.volumes; counted = x.1.counted; leaves = x.1.leaves });
        full = made.full;
        into = of_metadata stop (ended_into stop) made.into;
      }

  pub step_ended : (result : Result Bool NotedStop) → is_err result ≡ true → StepMade seen may_leave moment left_since disk_calls result old new before after →
      StepMade seen may_leave moment left_since disk_calls result old (record new { live = false }) before after
  step_ended (Ok more) e made = absurd cc
  step_ended (Err stop) e made = ended stop made

-- ---- with the entry that was taken out

-- what it is of is asked next
pub doing_asked : {C D : Type 0} (seen : D → List ℕ) (may_leave : D → List ℕ → Type 0) (n : Noted C D) (way : UnderWay) (history : HistoryState) (w : Whole) (least : List Row) → IsDoing seen may_leave n way history w least →
    Asks n.store.control.grain (agenda_of n.store.control.grain n.script) w (0, request_of way.doing.steps.ask)
doing_asked seen may_leave n way history w least d =
    subst (λ (g : GrainSize). Asks g (agenda_of g n.script) w (0, request_of way.doing.steps.ask)) (sym (ap (λ (s : StoreView). s.control.grain) d.since)) d.asked

pub doing_asks : {C D : Type 0} (seen : D → List ℕ) (may_leave : D → List ℕ → Type 0) (n : Noted C D) (way : UnderWay) (history : HistoryState) (w : Whole) (least : List Row) → IsDoing seen may_leave n way history w least →
    AsksSome n.store.control.grain n.script w
doing_asks seen may_leave n way history w least d = (n.script, request_of way.doing.steps.ask, λ read. stays, doing_asked seen may_leave n way history w least d)

abbrev refused : NotedStop → Result Bool NotedStop
refused stop = Err stop

-- an error is the one that is answered
pub same_stop : (stop : NotedStop) {told : NotedStop} → IsErrOf (refused stop) told → stop ≡ told
same_stop stop e = cc

module _ {C D : Type 0} (seen : D → List ℕ) (may_leave : D → List ℕ → Type 0) (moment : D → ℕ) (left_since : D → ℕ → List ℕ → Type 0) (disk_calls : D → ℕ) (n new : Noted C D) (way : UnderWay)
    (leaves : (history : HistoryState) (w : Whole) (least : List Row) → IsDoing seen may_leave (record n { under_way = Some way }) way history w least →
    LeavesOnly moment left_since n.meta.disk new.meta.disk (LeavesRecoverable (record n { under_way = Some way }) new w least)) where
  -- it goes on
  pub way_goes : (next : UnderWay) → new.live ≡ true → new.store.control.grain ≡ n.store.control.grain → new.script ≡ n.script → new.under_way ≡ Some next →
      ((history : HistoryState) (w : Whole) (least : List Row) → IsDoing seen may_leave (record n { under_way = Some way }) way history w least → IsDoing seen may_leave new next history w least) → (history : HistoryState) →
      WayMade seen may_leave moment left_since disk_calls done n way new history history
  way_goes next live grain script under goes history =
      record {
        on = λ w least d. inl (record {
          same = refl;
          live = live;
          grain = grain;
          at = subst (λ (o : Option UnderWay). IsAtBy seen may_leave o new history w least) (sym under) (goes history w least d);
          goes = let g : GrainSize = new.store.control.grain in subst (λ (s : Script). GoesOn g w (agenda_of g n.script) (agenda_of g s)) (sym script) (λ read. stays);
        });
        any_moment = leaves history;
        stopped = tt;
        full = λ f. absurd cc;
        into = tt;
      }

  -- or it stopped
  pub way_stops : (result : Result (Unit {0}) NotedStop) (given stop : NotedStop) → result ≡ Err given → given ≡ stop → (stop ≡ LogFull → ⊥) →
      ((history : HistoryState) (w : Whole) (least : List Row) → IsDoing seen may_leave (record n { under_way = Some way }) way history w least → HasStopped may_leave (record n { under_way = Some way }) new w least) →
      ((history : HistoryState) → OfMetadata stop ((w : Whole) (least : List Row) → IsDoing seen may_leave (record n { under_way = Some way }) way history w least → CountsInto seen disk_calls stop (record n { under_way = Some way }) new history w)) →
      (history : HistoryState) → WayMade seen may_leave moment left_since disk_calls result n way new history history
  way_stops result given stop e same other stops into history =
      subst (λ (z : Result (Unit {0}) NotedStop). WayMade seen may_leave moment left_since disk_calls z n way new history history) (sym (e ∙ ap (λ (z : NotedStop). Err z) same))
      (record {
        on = tt;
        any_moment = leaves history;
        stopped = λ w least d. (refl, stops history w least d);
        full = λ f. absurd (other (same_stop stop f));
        into = into history;
      })
