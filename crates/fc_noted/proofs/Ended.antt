-- The entry of steps that are over is logged: the history leads on with it, and the script goes on behind it.
use Rattle.std.proofs.Common.{◌≡◌, ℕ, ◌+◌, ◌<◌, ◌^◌, true, Option, Some, None, List, [], ◌∷◌, ◌++◌, length, slice_set, refl, sym, ap, subst, ◌∙◌, inr, arith, Vec, Global}
use Rattle.std.specs.Prelude.{Err, IfErr, Ok, OnErr, OnOk, Result}
use Rattle.std.proofs.lemmas.List.{length-append}
use Rattle.fc_agenda.specs.Goes.{stays}
use Rattle.fc_base.specs.Tables.{Tables}
use Rattle.fc_base.specs.declared.request.Request.{Request}
use Rattle.fc_base.specs.declared.size.GrainSize.{GrainSize}
use Rattle.fc_changed.specs.Row.{Row}
use Rattle.fc_desk.specs.Control.{ControlState}
use Rattle.fc_entry.specs.HistoryState.{HistoryState}
use Rattle.fc_entry.specs.declared.entry.Entry.{Entry}
use Rattle.fc_follow.specs.Following.{rows_entry}
use Rattle.fc_format.specs.Halves.{recovered}
use Rattle.fc_held.proofs.Holding.{all_agree}
use Rattle.fc_held.specs.Held.{HaveVolumes, MatchAll}
use Rattle.fc_kept.specs.Images.{kept_in}
use Rattle.fc_kept.specs.Marks.{least_entry}
use Rattle.fc_lane.specs.Doing.{FitsAsk, IsUnderWay}
use Rattle.fc_lane.specs.Entering.{HasFollowed}
use Rattle.fc_lane.specs.Lane.{LaneView, of}
use Rattle.fc_legal.specs.Added.{IsTold}
use Rattle.fc_legal.specs.Agenda.{Asks}
use Rattle.fc_legal.specs.Steps.{Step, after_access}
use Rattle.fc_legal.specs.Whole.{Whole, single_lane}
use Rattle.fc_marks.specs.Marks.{marked}
use Rattle.fc_marks.specs.declared.error.NotedStop.{NotedStop}
use Rattle.fc_marks.specs.declared.error.NotedStop.TheVariants.{LogFull, NoMemory as WantsMemory}
use Rattle.fc_marks.specs.declared.marks.Mark.{Mark}
use Rattle.fc_meta.specs.States.{room_of}
use Rattle.fc_metadisk.specs.Disk.{LeavesOnly}
use Rattle.fc_noted.proofs.Counting.{counted_same}
use Rattle.fc_noted.proofs.Data.{acted_none, hand_none, matches_none, since_then}
use Rattle.fc_noted.proofs.Failing.{failed_same}
use Rattle.fc_noted.proofs.Finishing.{is_right, not_of_all, rows, runs, store_stands}
use Rattle.fc_noted.proofs.Holding.{HoldSame, have_same, match_same, one_same}
use Rattle.fc_noted.proofs.InHand.{doing_counted, now_inside, recovered_of, safe}
use Rattle.fc_noted.proofs.MeteringHand.{ends_so}
use Rattle.fc_noted.proofs.Moments.{doing_found, hold_either, still_leaves}
use Rattle.fc_noted.proofs.Stepping.{same_stop}
use Rattle.fc_noted.specs.Making.{GoesBehind, WayMade}
use Rattle.fc_noted.specs.Metered.{AreActionsOf, Metered, Metered.access, after_actions}
use Rattle.fc_noted.specs.Noted.{Counts, IsAtBy, IsDoing, IsNotedAt, Keeps, Logs}
use Rattle.fc_noted.specs.Stopping.{AreCounted, HasStopped, LeavesRecoverable, MayBeRecovered, MoreFailed}
use Rattle.fc_noted.specs.declared.noted.Noted.{Noted}
use Rattle.fc_noted.specs.declared.noted.UnderWay.{UnderWay}
use Rattle.fc_script.specs.Asking.{Fits, IsAnswer, IsLeft}
use Rattle.fc_script.specs.Script.{agenda_of}
use Rattle.fc_script.specs.declared.script.Script.{Script}
use Rattle.fc_stands.specs.Store.{StandsFor, StoreView}
use Rattle.fc_steps.specs.Asking.{request_of}
use Rattle.fc_steps.specs.UnderWay.{next_of}
use Rattle.fc_steps.specs.declared.stepping.Next.TheVariants.{Over}
use Rattle.fc_store.specs.Stepping.{IsInLane, lane_in, no_lane}
use Rattle.law_noted.proofs.HandOn.{found as hand_found}
use Rattle.law_noted.proofs.OldOrNew.{safe_by}
use Rattle.law_noted.specs.DataSteps.{IsInHand}
use Rattle.law_noted.specs.Going.{IsEntryOf, marks_left, volume_noted}
use Rattle.law_noted.specs.Runs.{HasRun}

-- taken out of the noted store or not
pub doing_taken : {C D : Type 0} (seen : D → List ℕ) (may_leave : D → List ℕ → Type 0) (n : Noted C D) (way : UnderWay) (o : Option UnderWay) (history : HistoryState) (w : Whole) (least : List Row) → IsDoing seen may_leave n way history w least →
    IsDoing seen may_leave (record n { under_way = o }) way history w least
doing_taken seen may_leave n way o history w least d =
    record {
      begun = d.begun;
      few = d.few;
      told = d.told;
      inside = d.inside;
      since = d.since;
      fits = d.fits;
      under = d.under;
      number = d.number;
      by_main = d.by_main;
      asked = d.asked;
      steps = d.steps;
      in_volume = d.in_volume;
      steps_are = d.steps_are;
      before = d.before;
      run = d.run;
      point = d.point;
      came = d.came;
      keeps = record {
        rests = d.keeps.rests;
        image = d.keeps.image;
        says = d.keeps.says;
        sound = d.keeps.sound;
        good = d.keeps.good;
        kept = d.keeps.kept;
        rows = d.keeps.rows;
        named = d.keeps.named;
        volumes = d.keeps.volumes;
        matches = d.keeps.matches;
      };
      counts = record {
        before = d.counts.before;
        metered = d.counts.metered;
        same = d.counts.same;
        actions = d.counts.actions;
        acted = d.counts.acted;
        is = d.counts.is;
        calls = d.counts.calls;
      };
    }

module _ {C D : Type 0} (seen : D → List ℕ) (may_leave : D → List ℕ → Type 0) (n : Noted C D) (way : UnderWay) (none : way.due ≡ None) (over : next_of way.doing.steps ≡ Over) (store : StoreView) (entry : Entry)
    (x : IsEntryOf way.doing entry) (calls : entry.calls < 2 ^ 32)
    (followed : (lane : LaneView) → IsUnderWay lane way.doing (lane_in n.store way.place) →
    HasFollowed lane (FitsAsk (of lane) way.doing.steps.ask) way.doing.number way.doing.actor (request_of way.doing.steps.ask) entry (lane_in store way.place))
    (grains : (lane_in store way.place).grains ≡ (lane_in n.store way.place).grains) (is : IsInLane way.place n.store store) where
  abbrev old : Noted C D
  old = record n { under_way = Some way }

  module _ (history : HistoryState) (w : Whole) (least : List Row) (d : IsDoing seen may_leave (record n { under_way = Some way }) way history w least) where
    abbrev grain : GrainSize
    grain = d.begun.control.grain

    abbrev then : LaneView
    then = lane_in store way.place

    f : HasFollowed (lane_in d.begun way.place) (FitsAsk (of (lane_in d.begun way.place)) way.doing.steps.ask) way.doing.number way.doing.actor (request_of way.doing.steps.ask) entry (lane_in store way.place)
    f = followed (lane_in d.begun way.place) d.under

    abbrev next : Whole
    next = after_access d.begun.control.grain w way.place entry

    -- ---- the store

    store_is : store ≡ record d.begun { lanes = slice_set d.begun.lanes way.place (lane_in store way.place) }
    store_is = since_then d.begun n.store store way.place d.since is

    control_is : store.control ≡ d.begun.control
    control_is = ap (λ (s : StoreView). s.control) store_is

    control_old : n.store.control ≡ d.begun.control
    control_old = ap (λ (s : StoreView). s.control) d.since

    pub stands_next : StandsFor store (after_access d.begun.control.grain w way.place entry)
    stands_next =
        subst (λ (s : StoreView). StandsFor s next) (sym store_is) (store_stands seen may_leave old way history w least d none over entry then x f (omega (arith, calls)))

    step : Step d.begun.control.grain w entry (after_access d.begun.control.grain w way.place entry)
    step = is_right seen may_leave old way history w least d none over entry then x f

    hold_same : HoldSame n.store.lanes store.lanes
    hold_same = one_same n.store store way.place is grains (now_inside seen may_leave old way history w least d)

    volumes : HaveVolumes n.disks store
    volumes = have_same n.disks n.store store (ap (λ (s : StoreView). s.control) is) hold_same d.keeps.volumes

    counted : AreCounted w store.lanes
    counted = counted_same w n.store.lanes store.lanes hold_same (doing_counted seen may_leave old way history w least d)

    matches : MatchAll d.begun.control.grain n.named d.point.kept store.lanes d.point.disks
    matches = match_same n.store.lanes store.lanes hold_same grain n.named d.point.kept d.point.disks (matches_none seen may_leave old way history w least d none)

    -- ---- what stands may be recovered with what its lanes give back, too

    hand : IsInHand d.begun.control.grain w least way.place way.doing (lane_in d.begun way.place) (lane_in n.store way.place) d.steps d.before None d.point
    hand = hand_none seen may_leave old way history w least d none

    found_over : MayBeRecovered d.begun.control.grain n.script n.named store.lanes w least d.keeps.image
    found_over =
        recovered_of grain n.script n.named store.lanes w least (request_of way.doing.steps.ask) d.point.kept d.keeps.image d.asked d.keeps.sound d.keeps.kept
        (λ back hold. safe_by grain back d.point.kept w least (Some (request_of way.doing.steps.ask)) (MoreFailed w n.store.lanes) (MoreFailed w store.lanes) (failed_same w n.store.lanes store.lanes hold_same)
        (safe seen may_leave old way history w least d d.point.kept back
        (hand_found grain w least way.place way.doing (lane_in d.begun way.place) (lane_in n.store way.place) d.steps d.before None d.point back hand
        (all_agree grain n.named d.point.kept store.lanes d.point.disks back no_lane matches hold))))

    by_grain : (c : ControlState) → c ≡ d.begun.control → MayBeRecovered c.grain n.script n.named store.lanes w least d.keeps.image
    by_grain c e = subst (λ (z : ControlState). MayBeRecovered z.grain n.script n.named store.lanes w least d.keeps.image) (sym e) found_over

    module _ (marks : Vec Mark Global) (script : Script) where
      abbrev new : Noted C D
      new = record n { store = store; marks = marks; script = script }

      leaves : (moment : D → ℕ) (left_since : D → ℕ → List ℕ → Type 0) (only_now : (disk : D) (c : List ℕ) → left_since disk (moment disk) c → may_leave disk c) →
          LeavesOnly moment left_since n.meta.disk n.meta.disk (LeavesRecoverable old new w least)
      leaves moment left_since only_now =
          still_leaves seen may_leave moment left_since only_now old new w least d.keeps.image refl d.keeps.says d.keeps.rests.durable
          (hold_either n.store store n.script n.named w least d.keeps.image (ap (λ (s : StoreView). s.control.grain) is) (doing_found seen may_leave old way history w least d) (by_grain store.control control_is))

      stops : HasStopped may_leave old new w least
      stops = record { volumes = volumes; counted = counted; leaves = λ c left. (d.keeps.image, ap recovered (d.keeps.rests.durable c left) ∙ d.keeps.says, by_grain n.store.control control_old) }

      -- ---- it is logged

      answer_at : (c : ControlState) → c ≡ d.begun.control → IsAnswer c.grain n.script w entry (after_access d.begun.control.grain w way.place entry)
      answer_at c e =
          let asks : Asks grain (agenda_of grain n.script) w (entry.actor, entry.request) =
          subst (λ (a : ℕ). Asks grain (agenda_of grain n.script) w (a, entry.request)) (sym (f.asked.actor_is ∙ d.by_main))
          (subst (λ (r : Request). Asks grain (agenda_of grain n.script) w (0, r)) (sym x.request) d.asked) in
          subst (λ (z : ControlState). IsAnswer z.grain n.script w entry next) (sym e) (record { asked = asks; right = step })

      module _ (left : IsLeft store.control.grain n.script w entry (after_access d.begun.control.grain w way.place entry) script) (taken : n.under_way ≡ None)
          (marks_are : marks.items ≡ marks_left (volume_noted way.doing.steps) way.doing.steps.grain n.marks.items) where
        fits_next : Fits store.control.grain store.control.tables script
        fits_next =
            let before : Fits store.control.grain w.books.tables n.script =
            subst (λ (t : Tables). Fits store.control.grain t n.script) d.told.0.control.tables
            (subst (λ (z : ControlState). Fits z.grain d.begun.control.tables n.script) (sym control_is) (subst (λ (z : ControlState). Fits z.grain z.tables n.script) control_old d.fits)) in
            subst (λ (z : ControlState). Fits store.control.grain z.tables script) (sym control_is)
            (subst (λ (t : Tables). Fits store.control.grain t script) (sym d.told.0.control.tables) (left.fits before))

        keeps_next : Keeps seen may_leave d.begun.control.grain n.meta new (after_access d.begun.control.grain w way.place entry) None d.point
        keeps_next =
            record {
              rests = d.keeps.rests;
              image = d.keeps.image;
              says = d.keeps.says;
              sound = d.keeps.sound;
              good = d.keeps.good;
              kept = d.keeps.kept;
              rows = rows seen may_leave old way history w least d none over entry then x f ∙ ap (λ (ms : List Mark). marked ms (rows_entry (single_lane grain) w.rows entry)) (sym marks_are);
              named = d.keeps.named;
              volumes = volumes;
              matches = matches;
            }

        abbrev after : HistoryState
        after = record history { entries = history.entries ++ entry ∷ [] }

        told_next : IsTold (StandsFor store) (record history { entries = history.entries ++ entry ∷ [] }) (after_access d.begun.control.grain w way.place entry)
        told_next =
            let so_many : w.entries ≡ length history.entries = d.told.1.entries in
            let longer : length (history.entries ++ entry ∷ []) ≡ length history.entries + 1 = length-append history.entries (entry ∷ []) in
            (stands_next, record { actors = d.told.1.actors; entries = omega (arith, so_many, longer) })

        counts_next : Counts seen may_leave new (history.entries ++ entry ∷ []) (after_access d.begun.control.grain w way.place entry)
        counts_next =
            let c = d.counts in
            let half : ℕ = room_of seen n.meta in
            let are : AreActionsOf grain w (kept_in c.before.image).rows entry c.actions =
            subst (λ (rs : List Row). AreActionsOf grain w rs entry c.actions) (sym c.same)
            (ends_so grain w least way.place way.doing (lane_in d.begun way.place) (lane_in n.store way.place) d.steps d.before d.point hand c.actions (acted_none seen may_leave old way history w least d none) over entry x) in
            let all : Metered grain half (history.entries ++ entry ∷ []) next (after_actions half c.before c.actions) =
            access history.entries w c.before entry next c.actions c.metered step (not_of_all seen may_leave old way history w least d none over entry then x f) are in
            record {
              meter = after_actions half c.before c.actions;
              metered = subst (λ (z : ControlState). Metered z.grain half (history.entries ++ entry ∷ []) next (after_actions half c.before c.actions)) (sym control_is) all;
              is = c.is;
              calls = c.calls;
            }

        noted_next : IsNotedAt seen may_leave new (record history { entries = history.entries ++ entry ∷ [] }) (after_access d.begun.control.grain w way.place entry) (least_entry (single_lane d.begun.control.grain) least entry)
        noted_next =
            let run : HasRun grain (history.entries ++ entry ∷ []) next (least_entry (single_lane grain) least entry) d.point = runs seen may_leave old way history w least d none over entry then x f in
            record {
              idle = taken;
              told = told_next;
              fits = fits_next;
              point = d.point;
              run = subst (λ (z : ControlState). HasRun z.grain (history.entries ++ entry ∷ []) next (least_entry (single_lane grain) least entry) d.point) (sym control_is) run;
              keeps = subst (λ (z : ControlState). Keeps seen may_leave z.grain n.meta new next None d.point) (sym control_is) keeps_next;
              counts = counts_next;
            }

        logs : n.live ≡ true → Logs seen may_leave w least history old new (record history { entries = history.entries ++ entry ∷ [] })
        logs live =
            let so_many : w.entries ≡ length history.entries = d.told.1.entries in
            let few : w.entries < 262144 = d.few in
            record {
              entry = entry;
              next = next;
              least_next = least_entry (single_lane grain) least entry;
              room = omega (arith, so_many, few);
              pushed = refl;
              live = live;
              grain = ap (λ (s : StoreView). s.control.grain) is;
              asking = n.script;
              reached = λ read. stays;
              answer = answer_at n.store.control control_old;
              left = subst (λ (z : ControlState). IsLeft z.grain n.script w entry next script) (ap (λ (s : StoreView). s.control) is) left;
              at = subst (λ (o : Option UnderWay). IsAtBy seen may_leave o new after next (least_entry (single_lane grain) least entry)) (sym taken) noted_next;
            }

  -- ---- what that makes of the noted store

  module _ (moment : D → ℕ) (left_since : D → ℕ → List ℕ → Type 0) (disk_calls : D → ℕ) (only_now : (disk : D) (c : List ℕ) → left_since disk (moment disk) c → may_leave disk c) (live : n.live ≡ true) (taken : n.under_way ≡ None) (marks : Vec Mark Global)
      (marks_are : marks.items ≡ marks_left (volume_noted way.doing.steps) way.doing.steps.grain n.marks.items) (script : Script) where
    abbrev behind : Noted C D
    behind = record n { store = store; marks = marks; script = script }

    logged : (history : HistoryState) → GoesBehind store.control.grain (StandsFor store) n.script entry script →
        WayMade seen may_leave moment left_since disk_calls (Ok tt) n way behind history (record history { entries = history.entries ++ entry ∷ [] })
    logged history goes =
        record {
          on = λ w least d.
              inr (logs history w least d marks script (goes w (after_access d.begun.control.grain w way.place entry) (answer_at history w least d marks script store.control (control_is history w least d)) (stands_next history w least d)) taken marks_are live);
          any_moment = λ w least d. leaves history w least d marks script moment left_since only_now;
          stopped = tt;
          full = λ f. absurd cc;
          into = tt;
        }

    unlogged : (history : HistoryState) → WayMade seen may_leave moment left_since disk_calls (Err WantsMemory) n way behind history history
    unlogged history =
        record {
          on = tt;
          any_moment = λ w least d. leaves history w least d marks script moment left_since only_now;
          stopped = λ w least d. (refl, stops history w least d marks script);
          full = λ f. absurd (let e : WantsMemory ≡ LogFull = same_stop WantsMemory f in cc);
          into = tt;
        }

    by_result : (result : Result (Unit {0}) NotedStop) (history later : HistoryState) → OnOk result (later ≡ record history { entries = history.entries ++ entry ∷ [] }) →
        OnOk result (GoesBehind store.control.grain (StandsFor store) n.script entry script) → OnErr result (later ≡ history) → IfErr result (λ stop. stop ≡ WantsMemory) →
        WayMade seen may_leave moment left_since disk_calls result n way behind history later
    by_result (Ok u) history later pushed goes same stop = subst (λ (z : HistoryState). WayMade seen may_leave moment left_since disk_calls (Ok tt) n way behind history z) (sym pushed) (logged history goes)
    by_result (Err s) history later pushed goes same stop =
        subst (λ (z : HistoryState). WayMade seen may_leave moment left_since disk_calls (Err s) n way behind history z) (sym same)
        (subst (λ (z : NotedStop). WayMade seen may_leave moment left_since disk_calls (Err z) n way behind history history) (sym stop) (unlogged history))

  pub finish_made : (moment : D → ℕ) (left_since : D → ℕ → List ℕ → Type 0) (disk_calls : D → ℕ) (only_now : (disk : D) (c : List ℕ) → left_since disk (moment disk) c → may_leave disk c) → n.live ≡ true → n.under_way ≡ None → (marks : Vec Mark Global) →
      marks.items ≡ marks_left (volume_noted way.doing.steps) way.doing.steps.grain n.marks.items → (new : Noted C D) → new ≡ record n { store = store; marks = marks; script = new.script } → (result : Result (Unit {0}) NotedStop) (history after : HistoryState) →
      OnOk result (after ≡ record history { entries = history.entries ++ entry ∷ [] }) → OnOk result (GoesBehind store.control.grain (StandsFor store) n.script entry new.script) → OnErr result (after ≡ history) → IfErr result (λ stop. stop ≡ WantsMemory) →
      WayMade seen may_leave moment left_since disk_calls result n way new history after
  finish_made moment left_since disk_calls only_now live taken marks marks_are new others result history after pushed goes same stop =
      subst (λ (z : Noted C D). WayMade seen may_leave moment left_since disk_calls result n way z history after) (sym others)
      (by_result moment left_since disk_calls only_now live taken marks marks_are new.script result history after pushed goes same stop)
