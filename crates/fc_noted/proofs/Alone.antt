-- A move that is next of an entry under way and copies nothing: its record is put, and then it is made.
use Rattle.std.proofs.Common.{◌≡◌, ℕ, ◌+◌, ◌<◌, ◌≤◌, true, Option, Some, None, List, [], ◌∷◌, length, refl, sym, ap, subst, ◌∙◌, inl, inr}
use Rattle.std.specs.Prelude.{Err, Result}
use Rattle.std.proofs.lemmas.Bool.{cases_Bool}
use Rattle.std.proofs.lemmas.List.{get_or_default}
use Rattle.fc_base.specs.declared.request.Move.{Move}
use Rattle.fc_base.specs.declared.size.GrainSize.{GrainSize}
use Rattle.fc_changed.specs.Row.{Row}
use Rattle.fc_entry.specs.HistoryState.{HistoryState}
use Rattle.fc_entry.specs.Picture.{Content, Lost, content_at, is_lost}
use Rattle.fc_grains.proofs.Unreadable.{unreadable_away}
use Rattle.fc_grains.specs.Grains.{GrainsState}
use Rattle.fc_grains.specs.Volumes.{VolumeGrains, is_there, stored, volume_of}
use Rattle.fc_held.proofs.Holding.{all_agree}
use Rattle.fc_held.specs.Held.{HoldAllOf, MatchAll}
use Rattle.fc_image.specs.Records.{after_record}
use Rattle.fc_image.specs.declared.image.MetaImage.{MetaImage}
use Rattle.fc_image.specs.declared.record.MetaRecord.{MetaRecord}
use Rattle.fc_kept.specs.Disks.{NamedDisk}
use Rattle.fc_kept.specs.Images.{kept_in}
use Rattle.fc_kept.specs.Kept.{Kept, kept_after}
use Rattle.fc_kept.specs.Sound.{IsSoundImage}
use Rattle.fc_lane.specs.Lane.{LaneView}
use Rattle.fc_lane.specs.declared.doing.Doing.{Doing}
use Rattle.fc_legal.specs.Whole.{Whole}
use Rattle.fc_marks.specs.Meter.{IsCutShort, IsMetered, Meter, with_record}
use Rattle.fc_marks.specs.declared.error.NotedStop.{NotedStop}
use Rattle.fc_marks.specs.declared.error.NotedStop.TheVariants.{LogFull}
use Rattle.fc_meta.specs.Answers.{LeavesEither, found_with, more_calls}
use Rattle.fc_meta.specs.States.{IsResting, found, room_of}
use Rattle.fc_meta.specs.declared.meta.Meta.{Meta}
use Rattle.fc_metadisk.specs.Disk.{LeavesOnly}
use Rattle.fc_noted.proofs.CallsMade.{any_metadata}
use Rattle.fc_noted.proofs.Data.{acted_none, doing_goes, hand_none, have_still, matches_none, same_ask}
use Rattle.fc_noted.proofs.Fitting.{IsFit, alone_fits}
use Rattle.fc_noted.proofs.GoingAlong.{matches_along}
use Rattle.fc_noted.proofs.InHand.{alone_recovered, now_inside, recovered_of}
use Rattle.fc_noted.proofs.MeteringHand.{moved_so, uncopied_so}
use Rattle.fc_noted.proofs.MeteringNoted.{goes_into_record, so_far_put}
use Rattle.fc_noted.proofs.Putting.{by_grain, put_keeps, put_leaves, put_says, recovers_with, recovers_without, way_leaves, way_stopped}
use Rattle.fc_noted.proofs.Stepping.{way_goes, way_stops}
use Rattle.fc_noted.specs.Making.{CountsInto, WayMade, done}
use Rattle.fc_noted.specs.Noted.{IsDoing}
use Rattle.fc_noted.specs.Stopping.{HasStopped, HoldStill, HoldsTheSame, LeavesRecoverable, MayBeRecovered, MoreFailed}
use Rattle.fc_noted.specs.declared.noted.Noted.{Noted}
use Rattle.fc_noted.specs.declared.noted.UnderWay.{UnderWay}
use Rattle.fc_stands.specs.Store.{StoreView}
use Rattle.fc_steps.specs.Asking.{request_of}
use Rattle.fc_steps.specs.Moving.{SameLane}
use Rattle.fc_steps.specs.UnderWay.{next_of}
use Rattle.fc_steps.specs.declared.body.StepEnd.{StepEnd}
use Rattle.fc_steps.specs.declared.stepping.Next.TheVariants.{Move as NextMove}
use Rattle.fc_steps.specs.declared.stop.Stop.{Stop}
use Rattle.fc_steps.specs.declared.stop.Stop.TheVariants.{Failed}
use Rattle.fc_store.specs.Stepping.{IsInLane, IsStepOf, lane_in, no_lane}
use Rattle.law_agreeing.specs.Agreeing.{AllAgree}
use Rattle.law_crash.specs.Doing.{noted}
use Rattle.law_noted.proofs.DataInHand.{same_new, same_old}
use Rattle.law_noted.proofs.HandMoved.{moved_alone}
use Rattle.law_noted.proofs.Finding.{stop_law_holds}
use Rattle.law_noted.proofs.HandNext.{alone}
use Rattle.law_noted.proofs.HandOn.{put_alone}
use Rattle.law_noted.proofs.Losing.{uncopied_agree}
use Rattle.law_noted.proofs.OldOrNew.{safe_by}
use Rattle.law_noted.specs.Advancing.{HasTorn, uncopied}
use Rattle.law_noted.specs.Came.{steps_done}
use Rattle.law_noted.specs.DataSteps.{GoAlong, IsInHand, IsNextStep, copies_nothing}
use Rattle.law_noted.specs.One.{IsSafe}

-- ---- lanes that hold still

lost_is : (x : Content) → is_lost x ≡ true → x ≡ Lost
lost_is Lost e = refl
lost_is x e = absurd cc

-- what a volume holds, where it is there in both or in neither
stored_still : (xs ys : List VolumeGrains) (v y : ℕ) → is_there ys v ≡ is_there xs v → (is_there xs v ≡ true → HoldsTheSame (volume_of xs v) (volume_of ys v)) → stored ys v y ≡ stored xs v y
stored_still xs ys v y there holds =
    elim (cases_Bool (is_there xs v)) [
      | inl t ↦ ap (λ (cs : List Content). content_at cs y) (holds t).1
      | inr f ↦ lost_is (stored ys v y) (unreadable_away ys v y (there ∙ f)) ∙ sym (lost_is (stored xs v y) (unreadable_away xs v y f))
    ]

-- disks that go along with a lane that holds still match what it holds by what metadata said before, too
along_still : (grain : GrainSize) (w : Whole) (place : ℕ) (k k' : Kept) (old new : GrainsState) (ds : List (List NamedDisk)) → GoAlong grain w place k k' old new ds ds →
    ((v y : ℕ) → stored new.volumes v y ≡ stored old.volumes v y) → GoAlong grain w place k k old new ds ds
along_still grain w place k k' old new ds a still =
    record {
      count = a.count;
      lanes_are = a.lanes_are;
      same = a.same;
      kinds = a.kinds;
      sizes = a.sizes;
      pooled = a.pooled;
      aside = a.aside;
      once = a.once;
      here = λ v y whole. inl (whole, refl, still v y);
      others = λ i g il ne v y whole. inl (whole, refl, refl);
    }

module _ {C D : Type 0} (seen : D → List ℕ) (may_leave : D → List ℕ → Type 0) (moment : D → ℕ) (left_since : D → ℕ → List ℕ → Type 0) (disk_calls : D → ℕ) (counts_now : (disk : D) (t : ℕ) (c : List ℕ) → t ≤ moment disk → may_leave disk c → left_since disk t c)
    (n : Noted C D) (way : UnderWay) (m : Move) (none : way.due ≡ None) (live : n.live ≡ true) (next : next_of way.doing.steps ≡ NextMove m)
    (copies : copies_nothing (lane_in n.store way.place) way.doing.steps.place m ≡ true)
    (meta : Meta D) (calls : ℕ) (counted : (m' : Meter) → IsMetered seen n.meta m' → n.calls ≡ more_calls m'.calls 0 → calls ≡ more_calls (with_record (room_of seen n.meta) (uncopied m) m').calls 0)
    (run : LeavesOnly moment left_since n.meta.disk meta.disk (LeavesEither (found seen n.meta) (found_with (found seen n.meta) (uncopied m ∷ [])))) where
  abbrev old : Noted C D
  old = record n { under_way = Some way }

  abbrev x : MetaRecord
  x = uncopied m

  -- behind an error
  abbrev left : Noted C D
  left = record n { meta = meta; calls = calls }

  abbrev Puts : Type 0
  Puts = (m' : Meter) → IsMetered seen n.meta m' → IsMetered seen meta (with_record (room_of seen n.meta) (uncopied m) m')

  module _ (history : HistoryState) (w : Whole) (least : List Row) (d : IsDoing seen may_leave (record n { under_way = Some way }) way history w least) where
    abbrev grain : GrainSize
    grain = d.begun.control.grain

    abbrev begun : LaneView
    begun = lane_in d.begun way.place

    abbrev now : LaneView
    now = lane_in n.store way.place

    hand : IsInHand d.begun.control.grain w least way.place way.doing (lane_in d.begun way.place) (lane_in n.store way.place) d.steps d.before None d.point
    hand = hand_none seen may_leave old way history w least d none

    fit : IsFit d.point.kept (uncopied m)
    fit = alone_fits grain w least way.place way.doing begun now d.steps d.before d.point hand m next copies

    both : IsSoundImage (after_record d.keeps.image (uncopied m)) × (kept_in (after_record d.keeps.image (uncopied m)) ≡ kept_after d.point.kept (uncopied m))
    both = put_says d.keeps.image d.point.kept x d.keeps.sound d.keeps.kept fit

    abbrev Recovers : List LaneView → MetaImage → Type 0
    Recovers lanes i = MayBeRecovered n.store.control.grain n.script n.named lanes w least i

    with_it : (image : MetaImage) → IsSoundImage image → kept_in image ≡ kept_after d.point.kept (uncopied m) → MayBeRecovered d.begun.control.grain n.script n.named n.store.lanes w least image
    with_it image = alone_recovered seen may_leave old way history w least d none m image next copies

    by_size : (lanes : List LaneView) (i : MetaImage) → MayBeRecovered d.begun.control.grain n.script n.named lanes w least i → MayBeRecovered n.store.control.grain n.script n.named lanes w least i
    by_size = by_grain seen may_leave n way history w least d x fit with_it

    -- ---- an error of the disk of metadata

    alone_stops : HasStopped may_leave old left w least
    alone_stops = way_stopped seen may_leave n way history w least d x fit with_it moment left_since counts_now meta calls n.marks run

    failed_leaves : LeavesOnly moment left_since n.meta.disk meta.disk (LeavesRecoverable old left w least)
    failed_leaves = way_leaves seen may_leave n way history w least d x fit with_it moment left_since counts_now meta calls n.marks run n.under_way

    -- what is asked for goes so far into metadata
    alone_into : (stop : NotedStop) → IsCutShort seen disk_calls stop n.meta meta (with_record (room_of seen n.meta) (uncopied m)) → CountsInto seen disk_calls stop old left history w
    alone_into stop =
        let a = uncopied_so grain w least way.place way.doing begun now d.steps d.before d.point hand d.counts.actions (acted_none seen may_leave old way history w least d none) m next copies in
        goes_into_record seen may_leave old left way history w least d disk_calls stop x (steps_done way.doing.steps + 1) None None a.so_far counted

    -- ---- the move is made

    module _ (end : StepEnd) (doing : Doing) (store : StoreView) (step : IsStepOf way.doing (lane_in n.store way.place) end doing (lane_in store way.place)) (is : IsInLane way.place n.store store) where
      abbrev then : LaneView
      then = lane_in store way.place

      is_next : IsNextStep way.doing (lane_in n.store way.place) end doing (lane_in store way.place)
      is_next = record { way = step.way; after = step.after; moved = step.moved; wrote = step.wrote }

      moved : IsInHand d.begun.control.grain w least way.place doing (lane_in d.begun way.place) (lane_in store way.place) d.steps d.before None (noted (uncopied m) d.point)
          × GoAlong d.begun.control.grain w way.place d.point.kept (kept_after d.point.kept (uncopied m)) (lane_in n.store way.place).grains (lane_in store way.place).grains d.point.disks d.point.disks
      moved = moved_alone grain w least way.place way.doing begun now d.steps d.before d.point m end doing then hand next copies is_next

      ask_is : doing.steps.ask ≡ way.doing.steps.ask
      ask_is = ap (λ (z : Doing). z.steps.ask) step.after ∙ same_ask (next_of way.doing.steps) end way.doing.steps

      stay_old : SameLane (lane_in d.begun way.place).grains (lane_in n.store way.place).grains
      stay_old = same_old grain w least way.place way.doing begun now d.steps d.before d.point hand

      stay_new : SameLane (lane_in d.begun way.place).grains (lane_in store way.place).grains
      stay_new = same_new grain w least way.place way.doing begun now d.steps d.before d.point hand doing then moved.0.under ask_is

      inside : way.place < length n.store.lanes
      inside = now_inside seen may_leave old way history w least d

      matches_by : (k : Kept) → GoAlong d.begun.control.grain w way.place d.point.kept k (lane_in n.store way.place).grains (lane_in store way.place).grains d.point.disks d.point.disks →
          MatchAll d.begun.control.grain n.named k store.lanes d.point.disks
      matches_by k along =
          subst (λ (ls : List LaneView). MatchAll grain n.named k ls d.point.disks) (sym (ap (λ (s : StoreView). s.lanes) is))
          (matches_along grain w way.place n.named d.point.kept k n.store.lanes now then d.point.disks d.point.disks (λ e. get_or_default n.store.lanes way.place e no_lane inside) along
          (stay_new.disks ∙ sym stay_old.disks) (matches_none seen may_leave old way history w least d none))

      -- while it is written the lanes may hold what they do behind the move, where that is still so
      still_agree : HoldStill n.store.lanes store.lanes → (back : List (List NamedDisk)) → HoldAllOf n.named store.lanes back → AllAgree d.begun.control.grain d.point.kept d.point.disks back
      still_agree still back hold =
          let stored_same : (v y : ℕ) → stored then.grains.volumes v y ≡ stored now.grains.volumes v y =
          λ v y. stored_still now.grains.volumes then.grains.volumes v y (stay_new.there v ∙ sym (stay_old.there v)) (λ there. (still way.place v no_lane there).1) in
          let along : GoAlong grain w way.place d.point.kept d.point.kept now.grains then.grains d.point.disks d.point.disks = along_still grain w way.place d.point.kept (kept_after d.point.kept x) now.grains then.grains d.point.disks moved.1 stored_same in
          all_agree grain n.named d.point.kept store.lanes d.point.disks back no_lane (matches_by d.point.kept along) hold

      -- no write failed
      none_stopped : way.doing.steps.stop ≡ None
      none_stopped = (alone grain w least way.place way.doing begun now d.steps d.before d.point hand m next copies).stop_is

      safe_still : (k : Kept) (back : List (List NamedDisk)) (stop : Option Stop) → stop ≡ None → IsSafe d.begun.control.grain back k w least (Some (request_of way.doing.steps.ask)) (HasTorn stop) →
          IsSafe d.begun.control.grain back k w least (Some (request_of way.doing.steps.ask)) (MoreFailed w store.lanes)
      safe_still k back stop e =
          safe_by grain back k w least (Some (request_of way.doing.steps.ask)) (HasTorn stop) (MoreFailed w store.lanes) (λ t. absurd (let f : None ≡ Some (Failed (Some t.0)) = sym e ∙ t.1 in cc))

      still_without : HoldStill n.store.lanes store.lanes → MayBeRecovered n.store.control.grain n.script n.named store.lanes w least d.keeps.image
      still_without still =
          by_size store.lanes d.keeps.image
          (recovered_of grain n.script n.named store.lanes w least (request_of way.doing.steps.ask) d.point.kept d.keeps.image d.asked d.keeps.sound d.keeps.kept
          (λ back hold. safe_still d.point.kept back way.doing.steps.stop none_stopped
          (stop_law_holds.rests grain w least (request_of way.doing.steps.ask) d.steps d.before (steps_done way.doing.steps) way.doing.steps.stop d.point back hand.begins hand.came (still_agree still back hold))))

      still_with : HoldStill n.store.lanes store.lanes → MayBeRecovered n.store.control.grain n.script n.named store.lanes w least (after_record d.keeps.image (uncopied m))
      still_with still =
          by_size store.lanes (after_record d.keeps.image x)
          (recovered_of grain n.script n.named store.lanes w least (request_of way.doing.steps.ask) (kept_after d.point.kept x) (after_record d.keeps.image x) d.asked both.0 both.1
          (λ back hold. safe_still (kept_after d.point.kept x) back None refl
          (stop_law_holds.rests grain w least (request_of way.doing.steps.ask) d.steps d.before (steps_done way.doing.steps + 1) None (noted x d.point) back hand.begins
          (put_alone grain w least way.place way.doing begun now d.steps d.before d.point hand m next copies) (uncopied_agree grain d.point.kept m d.point.disks back (still_agree still back hold)))))

      abbrev way_new : UnderWay
      way_new = record { place = way.place; doing = doing; due = None }

      abbrev new : Noted C D
      new = record n { store = store; meta = meta; calls = calls; under_way = Some (record { place = way.place; doing = doing; due = None }) }

      alone_leaves : LeavesOnly moment left_since n.meta.disk meta.disk (LeavesRecoverable old new w least)
      alone_leaves =
          put_leaves seen may_leave moment left_since counts_now old new w least d.keeps.image x d.keeps.says run
          (λ lanes may. elim may [
            | inl e ↦ subst (λ (ls : List LaneView). Recovers ls d.keeps.image × Recovers ls (after_record d.keeps.image x)) (sym e)
                (recovers_without seen may_leave n way history w least d x fit with_it, recovers_with seen may_leave n way history w least d x fit with_it)
            | inr e ↦ subst (λ (ls : List LaneView). Recovers ls d.keeps.image × Recovers ls (after_record d.keeps.image x)) (sym e.0) (still_without e.1, still_with e.1)
          ])

      alone_doing : IsResting seen may_leave meta → found seen meta ≡ found_with (found seen n.meta) (uncopied m ∷ []) → room_of seen meta ≡ room_of seen n.meta → Puts → IsDoing seen may_leave new way_new history w least
      alone_doing rests says size metered =
          doing_goes seen may_leave old way history w least d new doing None (noted x d.point) is refl (ap (λ (z : Doing). z.number) step.after) (ap (λ (z : Doing). z.actor) step.after) ask_is moved.0
          (put_keeps seen may_leave grain old new w way.due d.point x d.keeps fit rests says refl d.keeps.rows
          (have_still n.disks n.store store way.place inside is (stay_new.ids ∙ sym stay_old.ids) (stay_new.disks ∙ sym stay_old.disks) d.keeps.volumes)
          (matches_by (kept_after d.point.kept x) moved.1))
          (so_far_put seen may_leave grain old new way way_new history.entries w d.steps d.before.kept.rows d.point.kept.rows (noted x d.point).kept.rows d.counts x
          (moved_so grain w least way.place way.doing begun now d.steps d.before d.point hand d.counts.actions (acted_none seen may_leave old way history w least d none) m end doing then next copies is_next) size metered counted)

  pub alone_made : (end : StepEnd) (doing : Doing) (store : StoreView) (step : IsStepOf way.doing (lane_in n.store way.place) end doing (lane_in store way.place)) (is : IsInLane way.place n.store store) → IsResting seen may_leave meta →
      found seen meta ≡ found_with (found seen n.meta) (uncopied m ∷ []) → room_of seen meta ≡ room_of seen n.meta → Puts → (history : HistoryState) →
      WayMade seen may_leave moment left_since disk_calls done n way (record n { store = store; meta = meta; calls = calls; under_way = Some (record { place = way.place; doing = doing; due = None }) }) history history
  alone_made end doing store step is rests says size metered =
      let next_way : UnderWay = record { place = way.place; doing = doing; due = None } in
      way_goes seen may_leave moment left_since disk_calls n (record n { store = store; meta = meta; calls = calls; under_way = Some next_way }) way (λ history w least d. alone_leaves history w least d end doing store step is) next_way live
      (ap (λ (s : StoreView). s.control.grain) is) refl refl (λ history w least d. alone_doing history w least d end doing store step is rests says size metered)

  -- by the noted store behind the record
  pub alone_made_by : (mid : Noted C D) → mid ≡ record n { meta = meta; calls = calls } → (end : StepEnd) (doing : Doing) (store : StoreView) → IsStepOf way.doing (lane_in mid.store way.place) end doing (lane_in store way.place) →
      IsInLane way.place mid.store store → IsResting seen may_leave meta → found seen meta ≡ found_with (found seen n.meta) (uncopied m ∷ []) → room_of seen meta ≡ room_of seen n.meta → Puts → (history : HistoryState) →
      WayMade seen may_leave moment left_since disk_calls done n way (record mid { store = store; under_way = Some (record { place = way.place; doing = doing; due = None }) }) history history
  alone_made_by mid e end doing store step is rests says size metered history =
      let Makes : Noted C D → Type 0 = λ (z : Noted C D).
      IsStepOf way.doing (lane_in z.store way.place) end doing (lane_in store way.place) → IsInLane way.place z.store store →
      WayMade seen may_leave moment left_since disk_calls done n way (record z { store = store; under_way = Some (record { place = way.place; doing = doing; due = None }) }) history history in
      subst Makes (sym e) (λ step' is'. alone_made end doing store step' is' rests says size metered history) step is

  pub alone_failed : (result : Result (Unit {0}) NotedStop) (given stop : NotedStop) → result ≡ Err given → given ≡ stop → (stop ≡ LogFull → ⊥) →
      IsCutShort seen disk_calls stop n.meta meta (with_record (room_of seen n.meta) (uncopied m)) → (history : HistoryState) → WayMade seen may_leave moment left_since disk_calls result n way left history history
  alone_failed result given stop e same other short =
      way_stops seen may_leave moment left_since disk_calls n left way failed_leaves result given stop e same other alone_stops
      (λ history. any_metadata stop (λ w least d. alone_into history w least d stop short))
