-- An entry begins in its lane, and is under way.
use Rattle.std.proofs.Common.{◌≡◌, ℕ, ◌<◌, ◌≤◌, true, Option, Some, None, List, [], length, Ok, Err, refl, sym, ap, subst, ◌∙◌, inl, arith}
use Rattle.fc_agenda.specs.Goes.{stays}
use Rattle.fc_base.specs.declared.size.GrainSize.{GrainSize}
use Rattle.fc_changed.specs.Row.{Row}
use Rattle.fc_entry.specs.HistoryState.{HistoryState}
use Rattle.fc_format.specs.Halves.{recovered}
use Rattle.fc_held.specs.Held.{MatchAll}
use Rattle.fc_kept.specs.Prefix.{AreStepsOf}
use Rattle.fc_lane.specs.Doing.{HasBegun}
use Rattle.fc_lane.specs.Lane.{LaneView, of}
use Rattle.fc_lane.specs.declared.doing.Doing.{Doing}
use Rattle.fc_legal.specs.Agenda.{Asks}
use Rattle.fc_legal.specs.Whole.{Whole, lane_at, lanes}
use Rattle.fc_kept.specs.Kept.{Kept}
use Rattle.fc_marks.specs.declared.error.NotedStop.TheVariants.{LogFull}
use Rattle.fc_noted.specs.Metered.{Acted}
use Rattle.fc_marks.specs.declared.error.NotedStop.{NotedStop}
use Rattle.fc_noted.proofs.Beginning.{begun_steps, begun_steps_are}
use Rattle.fc_noted.proofs.CallsMade.{counts_still, of_metadata}
use Rattle.fc_noted.proofs.Counting.{has_counted}
use Rattle.fc_noted.proofs.Holding.{HoldSame, have_same, match_same, one_same}
use Rattle.fc_noted.proofs.Metering.{begun_so}
use Rattle.fc_noted.proofs.Moments.{doing_found, hold_either, resting_found, still_leaves}
use Rattle.fc_noted.proofs.Standing.{meter_says}
use Rattle.fc_noted.proofs.Stepping.{same_stop}
use Rattle.fc_noted.specs.Making.{StepMade}
use Rattle.fc_noted.specs.Noted.{CanBegin, IsAt, IsAtBy, IsDoing, IsNotedAt}
use Rattle.fc_noted.specs.Stopping.{MayBeRecovered, OfMetadata}
use Rattle.fc_noted.specs.declared.noted.Noted.{Noted}
use Rattle.fc_noted.specs.declared.noted.UnderWay.{UnderWay}
use Rattle.fc_parts.specs.Law.{IsInVolume}
use Rattle.fc_rules.specs.Steps.{DiskStep}
use Rattle.fc_script.specs.Asking.{Fits}
use Rattle.fc_script.specs.Script.{agenda_of}
use Rattle.fc_stands.specs.Store.{IsLaneAt, StandsFor, StoreView}
use Rattle.fc_steps.specs.Asking.{request_of}
use Rattle.fc_steps.specs.declared.ask.Ask.{Ask}
use Rattle.fc_steps.specs.declared.stepping.Steps.{Steps}
use Rattle.fc_store.specs.Ready.{IsRoomier}
use Rattle.fc_store.specs.Stepping.{IsInLane, lane_in, no_lane}
use Rattle.law_noted.proofs.HandOn.{begins, first}
use Rattle.law_noted.specs.Came.{steps_done}
use Rattle.law_noted.specs.DataSteps.{IsInHand}
use Rattle.law_noted.specs.Runs.{HasRun}

-- ---- room was made

module _ {C D : Type 0} (seen : D → List ℕ) (may_leave : D → List ℕ → Type 0) where
  -- the store stands for what it did, and its lanes hold the same
  pub roomy_at : (n : Noted C D) (store : StoreView) (history : HistoryState) (w : Whole) (least : List Row) → store.control ≡ n.store.control → HoldSame n.store.lanes store.lanes →
      ((w : Whole) → StandsFor n.store w → StandsFor store w) → IsNotedAt seen may_leave n history w least → IsNotedAt seen may_leave (record n { store = store }) history w least
  roomy_at n store history w least control same stands at =
      let k = at.keeps in
      let grain : GrainSize = n.store.control.grain in
      let there : store.control.grain ≡ n.store.control.grain = ap (λ c. c.grain) control in
      record {
        idle = at.idle;
        told = (stands w at.told.0, at.told.1);
        fits = subst (λ c. Fits c.grain c.tables n.script) (sym control) at.fits;
        point = at.point;
        run = subst (λ (g : GrainSize). HasRun g history.entries w least at.point) (sym there) at.run;
        keeps = record {
          rests = k.rests;
          image = k.image;
          says = k.says;
          sound = k.sound;
          good = k.good;
          kept = k.kept;
          rows = k.rows;
          named = k.named;
          volumes = have_same n.disks n.store store control same k.volumes;
          matches = subst (λ (g : GrainSize). MatchAll g n.named at.point.kept store.lanes at.point.disks) (sym there) (match_same n.store.lanes store.lanes same grain n.named at.point.kept at.point.disks k.matches);
        };
        counts = counts_still seen may_leave n (record n { store = store }) history.entries w control refl refl at.counts;
      }

  -- what a step meets between two entries
  pub at_rest : (n : Noted C D) (history : HistoryState) (w : Whole) (least : List Row) → n.under_way ≡ None → IsAt seen may_leave n history w least → IsNotedAt seen may_leave n history w least
  at_rest n history w least idle at = subst (λ (o : Option UnderWay). IsAtBy seen may_leave o n history w least) idle at

  -- ---- an entry begins in a lane with room

  module _ (n : Noted C D) (history : HistoryState) (room : length history.entries < 262144) (place number : ℕ) (inside : place < length n.store.lanes) (ask : Ask) (doing : Doing) (store : StoreView)
      (begun : HasBegun (lane_in n.store place) number 0 ask doing (lane_in store place)) (numbered : number ≡ length history.entries) (is : IsInLane place n.store store) where
    abbrev way : UnderWay
    way = record { place = place; doing = doing; due = None }

    abbrev new : Noted C D
    new = record n { store = store; under_way = Some (record { place = place; doing = doing; due = None }) }

    ask_is : doing.steps.ask ≡ ask
    ask_is = ap (λ (s : Steps). s.ask) begun.steps_are

    holds : HoldSame n.store.lanes store.lanes
    holds = one_same n.store store place is (ap (λ (v : LaneView). v.grains) begun.same) inside

    module _ (w : Whole) (least : List Row) (at : IsNotedAt seen may_leave n history w least) (asks : Asks n.store.control.grain (agenda_of n.store.control.grain n.script) w (0, request_of ask))
        (in_volume : IsInVolume n.store.control.grain w (request_of ask)) where
      abbrev grain : GrainSize
      grain = n.store.control.grain

      abbrev lane : LaneView
      lane = lane_in n.store place

      lane_at_place : IsLaneAt grain w place lane
      lane_at_place = at.told.0.each place no_lane inside

      lane_is : of lane ≡ lane_at grain w place
      lane_is = λ i. record { lane = lane_at_place.lane i; lanes = lane_at_place.lanes_are i; grain = lane_at_place.grain_is i }

      below : place < lanes w
      below = subst (λ (k : ℕ). place < k) at.told.0.count inside

      few : w.entries < 262144
      few = subst (λ (k : ℕ). k < 262144) (sym at.told.1.entries) room

      steps : List DiskStep
      steps = begun_steps grain w place below lane (lane_in store place) doing lane_is lane_at_place.stands.lane begun.way

      are : AreStepsOf grain w (request_of doing.steps.ask) steps
      unfolding steps
      are = begun_steps_are grain w place below lane (lane_in store place) doing lane_is lane_at_place.stands.lane begun.way

      in_volume_here : IsInVolume grain w (request_of doing.steps.ask)
      in_volume_here = subst (λ (a : Ask). IsInVolume grain w (request_of a)) (sym ask_is) in_volume

      hand : IsInHand grain w least place doing lane (lane_in store place) steps at.point None at.point
      hand =
          first grain w least place number 0 at.told.0.decisions doing.steps.ask doing lane (lane_in store place) steps at.point at.told.0.stands
          (begins grain history.entries w least at.point (request_of doing.steps.ask) steps at.run (omega (arith, few)) in_volume_here are) at.run.have below lane_is lane_at_place.stands.lane
          (subst (λ (a : Ask). HasBegun lane number 0 a doing (lane_in store place)) (sym ask_is) begun)

      -- no action was done yet
      none_acted : Acted grain (request_of doing.steps.ask) steps (steps_done doing.steps) doing.steps.stop None at.point.kept.rows at.point.kept.rows []
      none_acted =
          subst (λ (s : Steps). Acted grain (request_of s.ask) steps (steps_done s) s.stop None at.point.kept.rows at.point.kept.rows []) (sym begun.steps_are) (begun_so grain (request_of ask) steps at.point.kept.rows)

      pub begun_doing : IsDoing seen may_leave new way history w least
      begun_doing =
          let k = at.keeps in
          record {
            begun = n.store;
            few = few;
            told = at.told;
            inside = inside;
            since = is;
            fits = subst (λ (s : StoreView). Fits s.control.grain s.control.tables n.script) (sym is) at.fits;
            under = begun.way;
            number = begun.number_is ∙ numbered;
            by_main = begun.actor_is;
            asked = subst (λ (a : Ask). Asks grain (agenda_of grain n.script) w (0, request_of a)) (sym ask_is) asks;
            steps = steps;
            in_volume = in_volume_here;
            steps_are = are;
            before = at.point;
            run = at.run;
            point = at.point;
            came = hand.came;
            keeps = record {
              rests = k.rests;
              image = k.image;
              says = k.says;
              sound = k.sound;
              good = k.good;
              kept = k.kept;
              rows = k.rows;
              named = k.named;
              volumes = have_same n.disks n.store store (ap (λ (s : StoreView). s.control) is) holds k.volumes;
              matches = match_same n.store.lanes store.lanes holds grain n.named at.point.kept at.point.disks k.matches;
            };
            counts =
                let c = at.counts in
                record {
                  before = c.meter;
                  metered = c.metered;
                  same = ap (λ (z : Kept). z.rows) (meter_says seen may_leave n history w least at);
                  actions = [];
                  acted = none_acted;
                  is = c.is;
                  calls = c.calls;
                };
          }

-- what that makes of a noted store in which room was made
module _ {C D : Type 0} (seen : D → List ℕ) (may_leave : D → List ℕ → Type 0) (moment : D → ℕ) (left_since : D → ℕ → List ℕ → Type 0) (disk_calls : D → ℕ) (only_now : (disk : D) (c : List ℕ) → left_since disk (moment disk) c → may_leave disk c)
    (old : Noted C D) (history : HistoryState) (begins : CanBegin seen may_leave old history) (roomy : StoreView) (kept : IsRoomier old.store roomy) where
  abbrev n : Noted C D
  n = record old { store = roomy }

  at_roomy : (w : Whole) (least : List Row) → IsAt seen may_leave old history w least → IsNotedAt seen may_leave (record old { store = roomy }) history w least
  at_roomy w least at = roomy_at seen may_leave old roomy history w least kept.control kept.grains kept.stands (at_rest seen may_leave old history w least begins.at.idle at)

  few_told : (w : Whole) (least : List Row) → IsAt seen may_leave old history w least → w.entries ≤ 262144
  few_told w least at =
      let h = at_rest seen may_leave old history w least begins.at.idle at in
      subst (λ (k : ℕ). k ≤ 262144) (sym h.told.1.entries) begins.room

  -- what stood may be recovered with what its lanes give back
  found_before : (w : Whole) (least : List Row) (at : IsAt seen may_leave old history w least) → MayBeRecovered old.store.control.grain old.script old.named old.store.lanes w least (at_roomy w least at).keeps.image
  unfolding at_roomy roomy_at
  found_before w least at = resting_found seen may_leave old history w least (at_rest seen may_leave old history w least begins.at.idle at) (few_told w least at)

  found_roomy : (w : Whole) (least : List Row) (at : IsAt seen may_leave old history w least) → MayBeRecovered old.store.control.grain old.script old.named roomy.lanes w least (at_roomy w least at).keeps.image
  found_roomy w least at =
      subst (λ c. MayBeRecovered c.grain old.script old.named roomy.lanes w least (at_roomy w least at).keeps.image) kept.control
      (resting_found seen may_leave n history w least (at_roomy w least at) (few_told w least at))

  -- ---- it stopped there

  pub stopped_made : (stop : NotedStop) → (stop ≡ LogFull → 262144 ≤ length history.entries) → OfMetadata stop ⊥ → StepMade seen may_leave moment left_since disk_calls (Err stop) old (record old { store = roomy }) history history
  stopped_made stop full never =
      record {
        on = tt;
        any_moment = λ w least at.
            let k = (at_roomy w least at).keeps in
            still_leaves seen may_leave moment left_since only_now old n w least k.image refl k.says k.rests.durable
            (hold_either old.store roomy old.script old.named w least k.image (ap (λ c. c.grain) kept.control) (found_before w least at)
            (subst (λ c. MayBeRecovered c.grain old.script old.named roomy.lanes w least k.image) (sym kept.control) (found_roomy w least at)));
        stopped = λ w least at.
            let h = at_roomy w least at in
            let k = h.keeps in (
              refl,
              record {
                volumes = k.volumes;
                counted = has_counted roomy w h.told.0 (few_told w least at);
                leaves = λ c may. (k.image, ap recovered (k.rests.durable c may) ∙ k.says, found_roomy w least at);
              },
            );
        full = λ e. full (same_stop stop e);
        into = of_metadata stop (λ (no : ⊥). absurd no) never;
      }

  -- ---- an entry is under way

  module _ (place number : ℕ) (inside : place < length roomy.lanes) (ask : Ask) (doing : Doing) (store : StoreView) (begun : HasBegun (lane_in roomy place) number 0 ask doing (lane_in store place)) (numbered : number ≡ length history.entries)
      (is : IsInLane place roomy store) (asks : (w : Whole) → StandsFor old.store w → Asks old.store.control.grain (agenda_of old.store.control.grain old.script) w (0, request_of ask))
      (in_volume : (w : Whole) → StandsFor old.store w → IsInVolume old.store.control.grain w (request_of ask)) (more : length history.entries < 262144) where
    abbrev behind : Noted C D
    behind = record old { store = store; under_way = Some (record { place = place; doing = doing; due = None }) }

    doing_at : (w : Whole) (least : List Row) → IsAt seen may_leave old history w least → IsDoing seen may_leave behind (record { place = place; doing = doing; due = None }) history w least
    doing_at w least at =
        let told : StandsFor old.store w = (at_rest seen may_leave old history w least begins.at.idle at).told.0 in
        begun_doing seen may_leave n history more place number inside ask doing store begun numbered is w least (at_roomy w least at)
        (subst (λ c. Asks c.grain (agenda_of c.grain old.script) w (0, request_of ask)) (sym kept.control) (asks w told))
        (subst (λ c. IsInVolume c.grain w (request_of ask)) (sym kept.control) (in_volume w told))

    pub begun_made : StepMade seen may_leave moment left_since disk_calls (Ok true) old behind history history
    unfolding doing_at begun_doing
    begun_made =
        record {
          on = λ w least at.
              inl (record { same = refl; live = begins.live; grain = ap (λ (s : StoreView). s.control.grain) is ∙ ap (λ c. c.grain) kept.control; at = doing_at w least at; goes = λ read. stays });
          any_moment = λ w least at.
              let k = (at_roomy w least at).keeps in
              still_leaves seen may_leave moment left_since only_now old behind w least k.image refl k.says k.rests.durable
              (hold_either old.store store old.script old.named w least k.image (ap (λ (s : StoreView). s.control.grain) is ∙ ap (λ c. c.grain) kept.control) (found_before w least at)
              (doing_found seen may_leave behind (record { place = place; doing = doing; due = None }) history w least (doing_at w least at)));
          stopped = tt;
          full = λ f. absurd cc;
          into = tt;
        }
