-- A step of data of the entry that is under way: it is under way behind it too, with the record that is then due.
use Rattle.std.proofs.Common.{◌≡◌, ◌≢◌, ℕ, ◌<◌, ◌≤◌, true, Option, Some, None, List, length, map, slice_index_or, slice_set, refl, sym, ap, subst, ◌∙◌}
use Rattle.std.proofs.lemmas.List.{get_or_default, set-set}
use Rattle.std.proofs.lemmas.List.Elements.{All-get_or, All-set}
use Rattle.fc_base.specs.declared.size.GrainSize.{GrainSize}
use Rattle.fc_changed.specs.Row.{Row}
use Rattle.fc_entry.specs.HistoryState.{HistoryState}
use Rattle.fc_grains.specs.Grains.{total_of}
use Rattle.fc_held.specs.Held.{HasVolumes, HaveVolumes, MatchAll}
use Rattle.fc_image.specs.declared.record.MetaRecord.{MetaRecord}
use Rattle.fc_kept.specs.Disks.{NamedDisk}
use Rattle.fc_lane.specs.Lane.{LaneView}
use Rattle.fc_lane.specs.declared.doing.Doing.{Doing}
use Rattle.fc_legal.specs.Agenda.{Asks}
use Rattle.fc_legal.specs.Whole.{Whole, part_of_rows, lane_at}
use Rattle.fc_metadisk.specs.Disk.{LeavesOnly}
use Rattle.fc_noted.proofs.GoingAlong.{matches_along}
use Rattle.fc_noted.proofs.InHand.{in_hand, now_inside}
use Rattle.fc_noted.proofs.MeteringHand.{data_so}
use Rattle.fc_noted.proofs.MeteringNoted.{so_far_same}
use Rattle.fc_noted.proofs.Moments.{doing_found, hold_either, still_leaves}
use Rattle.fc_noted.proofs.Stepping.{way_goes}
use Rattle.fc_noted.specs.Making.{CopiesNext, IsMarkedBy, IsMarkedNext, WayMade, done}
use Rattle.fc_noted.specs.Metered.{Acted}
use Rattle.fc_noted.specs.Noted.{CountsSoFar, IsDoing, Keeps}
use Rattle.fc_noted.specs.Stopping.{LeavesRecoverable}
use Rattle.fc_noted.specs.declared.noted.Noted.{Noted}
use Rattle.fc_noted.specs.declared.noted.UnderWay.{UnderWay}
use Rattle.fc_parts.specs.Law.{IsInVolume}
use Rattle.fc_kept.specs.Prefix.{AreStepsOf}
use Rattle.fc_script.specs.Asking.{Fits}
use Rattle.fc_script.specs.Script.{agenda_of}
use Rattle.fc_script.specs.declared.script.Script.{Script}
use Rattle.fc_stands.specs.Store.{IsLaneAt, StoreView}
use Rattle.fc_steps.specs.Asking.{request_of}
use Rattle.fc_steps.specs.Moving.{SameLane}
use Rattle.fc_steps.specs.UnderWay.{after_step, next_of}
use Rattle.fc_steps.specs.declared.ask.Ask.{Ask}
use Rattle.fc_steps.specs.declared.body.StepEnd.{StepEnd}
use Rattle.fc_steps.specs.declared.stepping.Next.{Next}
use Rattle.fc_steps.specs.declared.stepping.Next.TheVariants.{Move as NextMove, Own, Over}
use Rattle.fc_steps.specs.declared.stepping.Steps.{Steps}
use Rattle.fc_store.specs.Stepping.{IsInLane, IsStepOf, lane_in, no_lane}
use Rattle.law_crash.specs.Doing.{with_disks}
use Rattle.law_crash.specs.Points.{Point}
use Rattle.law_noted.proofs.DataInHand.{same_new, same_old}
use Rattle.law_noted.proofs.DataWhole.{data_law_holds}
use Rattle.law_noted.proofs.HandOn.{is_wanted}
use Rattle.law_noted.specs.Came.{steps_done}
use Rattle.law_noted.specs.DataSteps.{GoAlong, IsInHand, IsNextStep, IsStepped, NeedsNoMark}
use Rattle.law_noted.specs.Records.{kept_by, record_after}

-- ---- one lane of a store

-- what is asked stays
pub same_ask : (next : Next) (end : StepEnd) (s : Steps) → (after_step next end s).ask ≡ s.ask
same_ask (NextMove m) end s = refl
same_ask (Own part) end s = refl
same_ask Over end s = refl

-- a lane that changed twice
pub since_then : (begun old new : StoreView) (place : ℕ) → old ≡ record begun { lanes = slice_set begun.lanes place (lane_in old place) } → IsInLane place old new →
    new ≡ record begun { lanes = slice_set begun.lanes place (lane_in new place) }
since_then begun old new place was is =
    is ∙ ((λ i. record { control = (was i).control; lanes = slice_set (was i).lanes place (lane_in new place) })
    ∙ ap (λ (ls : List LaneView). record begun { lanes = ls }) (set-set begun.lanes place (lane_in old place) (lane_in new place)))

-- the same volumes, and no more disks
pub have_still : (count : ℕ) (old new : StoreView) (place : ℕ) → place < length old.lanes → IsInLane place old new →
    map (λ v. v.volume) (lane_in new place).grains.volumes ≡ map (λ v. v.volume) (lane_in old place).grains.volumes → (lane_in new place).grains.disks ≡ (lane_in old place).grains.disks →
    HaveVolumes count old → HaveVolumes count new
have_still count old new place inside is ids disks have =
    let Few : LaneView → Type 0 = λ v. total_of v.grains.disks ≤ count in
    let Has : LaneView → Type 0 = HasVolumes old.control.tables.volumes in
    subst (HaveVolumes count) (sym is)
    (record {
      volumes = All-set Has old.lanes place (lane_in new place) (ids ∙ All-get_or Has old.lanes place no_lane inside have.volumes) have.volumes;
      few = All-set Few old.lanes place (lane_in new place)
          (subst (λ d. total_of d ≤ count) (sym disks) (All-get_or Few old.lanes place no_lane inside have.few)) have.few;
    })

module _ {C D : Type 0} (seen : D → List ℕ) (may_leave : D → List ℕ → Type 0) (old : Noted C D) (way : UnderWay) (history : HistoryState) (w : Whole) (least : List Row)
    (d : IsDoing seen may_leave old way history w least) where
  -- The entry goes on in its lane, with other steps, a record that is due, and what metadata then is.
  module _ (new : Noted C D) (doing : Doing) (due : Option MetaRecord) (point : Point) where
    abbrev way_on : UnderWay
    way_on = record { place = way.place; doing = doing; due = due }

    pub doing_goes : IsInLane way.place old.store new.store → new.script ≡ old.script → doing.number ≡ way.doing.number → doing.actor ≡ way.doing.actor → doing.steps.ask ≡ way.doing.steps.ask →
        IsInHand d.begun.control.grain w least way.place doing (lane_in d.begun way.place) (lane_in new.store way.place) d.steps d.before due point → Keeps seen may_leave d.begun.control.grain new.meta new w due point →
        CountsSoFar seen may_leave d.begun.control.grain new way_on history.entries w d.steps d.before.kept.rows point.kept.rows → IsDoing seen may_leave new way_on history w least
    doing_goes is script number actor ask h keeps counts =
        let grain : GrainSize = d.begun.control.grain in
        let asked_on : Asks grain (agenda_of grain new.script) w (0, request_of way.doing.steps.ask) = subst (λ (s : Script). Asks grain (agenda_of grain s) w (0, request_of way.doing.steps.ask)) (sym script) d.asked in
        let fits_on : Fits old.store.control.grain old.store.control.tables new.script = subst (λ (s : Script). Fits old.store.control.grain old.store.control.tables s) (sym script) d.fits in
        record {
          begun = d.begun;
          few = d.few;
          told = d.told;
          inside = d.inside;
          since = since_then d.begun old.store new.store way.place d.since is;
          fits = subst (λ (s : StoreView). Fits s.control.grain s.control.tables new.script) (sym is) fits_on;
          under = h.under;
          number = number ∙ d.number;
          by_main = actor ∙ d.by_main;
          asked = subst (λ (a : Ask). Asks grain (agenda_of grain new.script) w (0, request_of a)) (sym ask) asked_on;
          steps = d.steps;
          in_volume = subst (λ (a : Ask). IsInVolume grain w (request_of a)) (sym ask) d.in_volume;
          steps_are = subst (λ (a : Ask). AreStepsOf grain w (request_of a) d.steps) (sym ask) d.steps_are;
          before = d.before;
          run = d.run;
          point = point;
          came = h.came;
          keeps = keeps;
          counts = counts;
        }

module _ {C D : Type 0} (seen : D → List ℕ) (may_leave : D → List ℕ → Type 0) (old : Noted C D) (way : UnderWay) (history : HistoryState) (w : Whole) (least : List Row)
    (d : IsDoing seen may_leave old way history w least) (none : way.due ≡ None) where
  abbrev grain : GrainSize
  grain = d.begun.control.grain

  abbrev lane : LaneView
  lane = lane_in d.begun way.place

  abbrev now : LaneView
  now = lane_in old.store way.place

  pub hand_none : IsInHand d.begun.control.grain w least way.place way.doing (lane_in d.begun way.place) (lane_in old.store way.place) d.steps d.before None d.point
  hand_none = subst (λ (o : Option MetaRecord). IsInHand grain w least way.place way.doing lane now d.steps d.before o d.point) none (in_hand seen may_leave old way history w least d)

  -- what it costs so far
  pub acted_none : Acted d.begun.control.grain (request_of way.doing.steps.ask) d.steps (steps_done way.doing.steps) way.doing.steps.stop None d.before.kept.rows d.point.kept.rows d.counts.actions
  acted_none =
      subst (λ (o : Option MetaRecord). Acted grain (request_of way.doing.steps.ask) d.steps (steps_done way.doing.steps) way.doing.steps.stop o d.before.kept.rows d.point.kept.rows d.counts.actions) none d.counts.acted

  inside : way.place < length old.store.lanes
  inside = now_inside seen may_leave old way history w least d

  -- the lane that is seen at its place
  pub seen_lane : (all : List LaneView) (v : LaneView) → all ≡ old.store.lanes → v ≡ slice_index_or all way.place v → v ≡ lane_in old.store way.place
  seen_lane all v are is = is ∙ (ap (λ (ls : List LaneView). slice_index_or ls way.place v) are ∙ sym (get_or_default old.store.lanes way.place no_lane v inside))

  pub rows_are : (lane_in d.begun way.place).changes.rows ≡ part_of_rows (lane_at d.begun.control.grain w way.place) w.rows
  rows_are = let at : IsLaneAt grain w way.place lane = d.told.0.each way.place no_lane d.inside in at.stands.rows

  needs_by : (z : Next) → IsMarkedBy old way z → NeedsNoMark d.point.kept.rows way.doing.steps.grain z
  needs_by (Own part) marked =
      sym (is_wanted grain w least way.place way.doing lane now d.steps d.before d.point hand_none part old.marks.items rows_are d.keeps.rows) ∙ marked
  needs_by (NextMove m) marked = tt
  needs_by Over marked = tt

  pub matches_none : MatchAll d.begun.control.grain old.named d.point.kept old.store.lanes d.point.disks
  matches_none = subst (λ (o : Option MetaRecord). MatchAll grain old.named (kept_by o d.point.kept) old.store.lanes d.point.disks) none d.keeps.matches

  -- the entry behind a step, with a record that is due and other disks
  module _ (store : StoreView) (doing : Doing) (due : Option MetaRecord) (disks : List (List NamedDisk)) (is : IsInLane way.place old.store store) (number : doing.number ≡ way.doing.number) (actor : doing.actor ≡ way.doing.actor) (ask : doing.steps.ask ≡ way.doing.steps.ask)
      (h : IsInHand grain w least way.place doing lane (lane_in store way.place) d.steps d.before due (with_disks disks d.point))
      (along : GoAlong grain w way.place d.point.kept (kept_by due d.point.kept) now.grains (lane_in store way.place).grains d.point.disks disks) where
    abbrev way_new : UnderWay
    way_new = record { place = way.place; doing = doing; due = due }

    abbrev new : Noted C D
    new = record old { store = store; under_way = Some (record { place = way.place; doing = doing; due = due }) }

    same_control : store.control ≡ old.store.control
    same_control = ap (λ (s : StoreView). s.control) is

    kept_on : Keeps seen may_leave grain new.meta new w due (with_disks disks d.point)
    kept_on =
        let stay : SameLane lane.grains now.grains = same_old grain w least way.place way.doing lane now d.steps d.before d.point hand_none in
        let stays : SameLane lane.grains (lane_in store way.place).grains = same_new grain w least way.place way.doing lane now d.steps d.before d.point hand_none doing (lane_in store way.place) h.under ask in
        record {
          rests = d.keeps.rests;
          image = d.keeps.image;
          says = d.keeps.says;
          sound = d.keeps.sound;
          good = d.keeps.good;
          kept = d.keeps.kept;
          rows = d.keeps.rows;
          named = d.keeps.named;
          volumes = have_still old.disks old.store store way.place inside is (stays.ids ∙ sym stay.ids) (stays.disks ∙ sym stay.disks) d.keeps.volumes;
          matches = subst (λ (ls : List LaneView). MatchAll grain old.named (kept_by due d.point.kept) ls disks) (sym (ap (λ (s : StoreView). s.lanes) is))
              (matches_along grain w way.place old.named d.point.kept (kept_by due d.point.kept) old.store.lanes now (lane_in store way.place) d.point.disks disks
              (λ e. get_or_default old.store.lanes way.place e no_lane inside) along (stays.disks ∙ sym stay.disks) matches_none);
        }

    doing_on : CountsSoFar seen may_leave grain new way_new history.entries w d.steps d.before.kept.rows d.point.kept.rows → IsDoing seen may_leave new way_new history w least
    doing_on counts = doing_goes seen may_leave old way history w least d new doing due (with_disks disks d.point) is refl number actor ask h kept_on counts

  -- behind the next step of data
  module _ (end : StepEnd) (doing : Doing) (store : StoreView) (step : IsStepOf way.doing (lane_in old.store way.place) end doing (lane_in store way.place)) (is : IsInLane way.place old.store store)
      (next : next_of way.doing.steps ≢ Over) (marked : IsMarkedNext old way) (copies : CopiesNext old way) where
    due_next : Option MetaRecord
    due_next = record_after (next_of way.doing.steps) end way.doing.steps.grain

    is_next : IsNextStep way.doing now end doing (lane_in store way.place)
    is_next = record { way = step.way; after = step.after; moved = step.moved; wrote = step.wrote }

    stepped : IsStepped grain w least way.place doing lane now (lane_in store way.place) d.steps d.before (record_after (next_of way.doing.steps) end way.doing.steps.grain) d.point
    stepped =
        data_law_holds.steps grain w least way.place way.doing lane now d.steps d.before d.point end doing (lane_in store way.place) hand_none
        is_next next copies (needs_by (next_of way.doing.steps) marked)

    ask_is : doing.steps.ask ≡ way.doing.steps.ask
    ask_is = ap (λ (x : Doing). x.steps.ask) step.after ∙ same_ask (next_of way.doing.steps) end way.doing.steps

    abbrev new_way : UnderWay
    new_way = record { place = way.place; doing = doing; due = record_after (next_of way.doing.steps) end way.doing.steps.grain }

    counted : CountsSoFar seen may_leave d.begun.control.grain (record old { store = store; under_way = Some new_way }) new_way history.entries w d.steps d.before.kept.rows d.point.kept.rows
    counted =
        let so = data_so grain w least way.place way.doing lane now d.steps d.before d.point hand_none d.counts.actions acted_none end doing (lane_in store way.place) is_next next
        (needs_by (next_of way.doing.steps) marked) stepped in
        so_far_same seen may_leave grain old (record old { store = store; under_way = Some new_way }) way new_way history.entries w d.steps d.before.kept.rows d.point.kept.rows d.point.kept.rows d.counts
        so.0 so.1 so.2 refl refl

    pub data_doing : IsDoing seen may_leave (record old { store = store; under_way = Some new_way }) new_way history w least
    data_doing =
        doing_on store doing (record_after (next_of way.doing.steps) end way.doing.steps.grain) stepped.disks is
        (ap (λ (x : Doing). x.number) step.after) (ap (λ (x : Doing). x.actor) step.after) ask_is stepped.in_hand stepped.along counted

-- what a step of data makes of a noted store
module _ {C D : Type 0} (seen : D → List ℕ) (may_leave : D → List ℕ → Type 0) (moment : D → ℕ) (left_since : D → ℕ → List ℕ → Type 0) (disk_calls : D → ℕ) (only_now : (disk : D) (c : List ℕ) → left_since disk (moment disk) c → may_leave disk c)
    (n : Noted C D) (way : UnderWay) (none : way.due ≡ None) (live : n.live ≡ true) (end : StepEnd) (doing : Doing) (store : StoreView)
    (step : IsStepOf way.doing (lane_in n.store way.place) end doing (lane_in store way.place)) (is : IsInLane way.place n.store store)
    (next : next_of way.doing.steps ≢ Over) (marked : IsMarkedNext n way) (copies : CopiesNext n way) where
  abbrev old : Noted C D
  old = record n { under_way = Some way }

  abbrev way_behind : UnderWay
  way_behind = record { place = way.place; doing = doing; due = record_after (next_of way.doing.steps) end way.doing.steps.grain }

  abbrev behind : Noted C D
  behind = record n { store = store; under_way = Some (record { place = way.place; doing = doing; due = record_after (next_of way.doing.steps) end way.doing.steps.grain }) }

  goes_behind : (history : HistoryState) (w : Whole) (least : List Row) → IsDoing seen may_leave (record n { under_way = Some way }) way history w least → IsDoing seen may_leave behind way_behind history w least
  goes_behind history w least d = data_doing seen may_leave old way history w least d none end doing store step is next marked copies

  leaves_behind : (history : HistoryState) (w : Whole) (least : List Row) → IsDoing seen may_leave (record n { under_way = Some way }) way history w least →
      LeavesOnly moment left_since n.meta.disk n.meta.disk (LeavesRecoverable (record n { under_way = Some way }) behind w least)
  unfolding goes_behind data_doing doing_on doing_goes kept_on
  leaves_behind history w least d =
      still_leaves seen may_leave moment left_since only_now old behind w least d.keeps.image refl d.keeps.says d.keeps.rests.durable
      (hold_either n.store store n.script n.named w least d.keeps.image (ap (λ (s : StoreView). s.control.grain) is) (doing_found seen may_leave old way history w least d)
      (doing_found seen may_leave behind way_behind history w least (goes_behind history w least d)))

  pub data_made : (history : HistoryState) → WayMade seen may_leave moment left_since disk_calls done n way behind history history
  data_made = way_goes seen may_leave moment left_since disk_calls n behind way leaves_behind way_behind live (ap (λ (s : StoreView). s.control.grain) is) refl refl goes_behind

  -- with the record that is said to be due
  pub data_made_by : (due : Option MetaRecord) → due ≡ record_after (next_of way.doing.steps) end way.doing.steps.grain → (history : HistoryState) →
      WayMade seen may_leave moment left_since disk_calls done n way (record n { store = store; under_way = Some (record { place = way.place; doing = doing; due = due }) }) history history
  data_made_by due e history =
      subst (λ (o : Option MetaRecord). WayMade seen may_leave moment left_since disk_calls done n way (record n { store = store; under_way = Some (record { place = way.place; doing = doing; due = o }) }) history history) (sym e)
      (data_made history)
