-- The entry that is under way in a noted store is in hand, and what stands on metadata's disk may be recovered with whatever disks the
-- lanes give back: between its steps, in them, and in the calls that put a record.
use Rattle.std.proofs.Common.{◌≡◌, ℕ, ◌<◌, ◌≤◌, true, Option, Some, None, List, length, sym, subst, length-set, arith}
use Rattle.std.specs.List.{list_any}
use Rattle.fc_agenda.specs.Goes.{stays}
use Rattle.fc_base.specs.Count.{HasRisen}
use Rattle.fc_base.specs.declared.request.Move.{Move}
use Rattle.fc_base.specs.declared.request.Request.{Request}
use Rattle.fc_base.specs.declared.request.WritePart.{WritePart}
use Rattle.fc_base.specs.declared.size.GrainSize.{GrainSize}
use Rattle.fc_changed.specs.Row.{Row}
use Rattle.fc_entry.specs.HistoryState.{HistoryState}
use Rattle.fc_held.specs.Held.{HoldAllOf}
use Rattle.fc_held.proofs.Holding.{all_agree}
use Rattle.fc_image.specs.declared.image.MetaImage.{MetaImage}
use Rattle.fc_image.specs.declared.record.MetaRecord.{MetaRecord}
use Rattle.fc_image.specs.declared.record.MetaRecord.TheVariants.{Changing}
use Rattle.fc_kept.specs.Actions.{is_unmarked}
use Rattle.fc_kept.specs.Disks.{NamedDisk}
use Rattle.fc_kept.specs.Images.{kept_in}
use Rattle.fc_kept.specs.Kept.{Kept, kept_after}
use Rattle.fc_kept.specs.Sound.{IsSoundImage}
use Rattle.fc_lane.specs.Lane.{LaneView}
use Rattle.fc_legal.specs.Agenda.{Asks}
use Rattle.fc_legal.specs.Whole.{Whole}
use Rattle.fc_noted.proofs.Counting.{counted_in_lane, has_counted}
use Rattle.fc_noted.proofs.Failing.{more_failed}
use Rattle.fc_noted.proofs.Rising.{rising}
use Rattle.fc_noted.specs.Noted.{IsDoing}
use Rattle.fc_noted.specs.Stopping.{AreCounted, MayBeRecovered, MoreFailed}
use Rattle.fc_noted.specs.declared.noted.Noted.{Noted}
use Rattle.fc_noted.specs.declared.noted.UnderWay.{UnderWay}
use Rattle.fc_script.specs.Script.{agenda_of}
use Rattle.fc_script.specs.declared.script.Script.{Script}
use Rattle.fc_stands.specs.Store.{IsLaneAt, StoreView}
use Rattle.fc_steps.specs.Asking.{request_of}
use Rattle.fc_steps.specs.UnderWay.{next_of}
use Rattle.fc_steps.specs.declared.stepping.Next.TheVariants.{Move as NextMove, Own}
use Rattle.fc_store.specs.Stepping.{lane_in, no_lane}
use Rattle.law_agreeing.specs.Agreeing.{AllAgree}
use Rattle.law_crash.specs.Doing.{noted}
use Rattle.law_noted.proofs.OldOrNew.{safe_by}
use Rattle.law_noted.specs.Advancing.{uncopied}
use Rattle.law_noted.specs.DataSteps.{IsInHand, copies_nothing}
use Rattle.law_noted.specs.One.{IsSafe}
use Rattle.law_noted.specs.Records.{kept_by}
use Rattle.law_noted.proofs.HandOn.{alone_found, begins, found, put, put_mark}
use Rattle.law_noted.proofs.Losing.{marked_agree}

-- ---- an image that is found

-- whatever disks are given back
abbrev pub Found : GrainSize → Whole → List Row → Request → List LaneView → Kept → List (List NamedDisk) → Type 0
Found grain w least r lanes k back = IsSafe grain back k w least (Some r) (MoreFailed w lanes)

pub recovered_of : (grain : GrainSize) (script : Script) (named : ℕ) (lanes : List LaneView) (w : Whole) (least : List Row) (r : Request) (k : Kept) (image : MetaImage) → Asks grain (agenda_of grain script) w (0, r) → IsSoundImage image →
    kept_in image ≡ k → ((back : List (List NamedDisk)) → HoldAllOf named lanes back → Found grain w least r lanes k back) → MayBeRecovered grain script named lanes w least image
recovered_of grain script named lanes w least r k image asks sound says f =
    record {
      request = Some r;
      asking = script;
      reached = λ read. stays;
      asked = asks;
      sound = sound;
      found = λ back hold. subst (λ (z : Kept). Found grain w least r lanes z back) (sym says) (f back hold);
    }

module _ {C D : Type 0} (seen : D → List ℕ) (may_leave : D → List ℕ → Type 0) (n : Noted C D) (way : UnderWay) (history : HistoryState) (w : Whole) (least : List Row) (d : IsDoing seen may_leave n way history w least) where
  abbrev grain : GrainSize
  grain = d.begun.control.grain

  abbrev lane : LaneView
  lane = lane_in d.begun way.place

  abbrev now : LaneView
  now = lane_in n.store way.place

  abbrev r : Request
  r = request_of way.doing.steps.ask

  pub at_lane : IsLaneAt d.begun.control.grain w way.place (lane_in d.begun way.place)
  at_lane = d.told.0.each way.place no_lane d.inside

  few : w.entries ≤ 262144
  few = omega (arith, d.few)

  pub now_inside : way.place < length n.store.lanes
  now_inside = subst (λ (s : StoreView). way.place < length s.lanes) (sym d.since) (subst (λ (k : ℕ). way.place < k) (sym (length-set d.begun.lanes way.place now)) d.inside)

  -- what is told was counted, by the entry too
  pub doing_counted : AreCounted w n.store.lanes
  doing_counted =
      let rose = rising lane way.doing now d.under in
      subst (λ (s : StoreView). AreCounted w s.lanes) (sym d.since) (counted_in_lane w d.begun.lanes way.place now no_lane (has_counted d.begun w d.told.0 few) rose.0 rose.1)

  pub in_hand : IsInHand d.begun.control.grain w least way.place way.doing (lane_in d.begun way.place) (lane_in n.store way.place) d.steps d.before way.due d.point
  in_hand = record {
    decisions = d.told.0.decisions;
    stands = d.told.0.stands;
    begins = begins grain history.entries w least d.before r d.steps d.run few d.in_volume d.steps_are;
    have = d.run.have;
    inside = subst (λ (m : ℕ). way.place < m) d.told.0.count d.inside;
    lane_is = λ i. record { lane = at_lane.lane i; lanes = at_lane.lanes_are i; grain = at_lane.grain_is i };
    told = at_lane.stands.lane;
    under = d.under;
    came = d.came;
  }

  -- where a write failed, more failed than is told
  pub safe : (k : Kept) (back : List (List NamedDisk)) →
      IsSafe d.begun.control.grain back k w least (Some (request_of way.doing.steps.ask)) (HasRisen (lane_in d.begun way.place).grains.faults (lane_in n.store way.place).grains.faults) →
      IsSafe d.begun.control.grain back k w least (Some (request_of way.doing.steps.ask)) (MoreFailed w n.store.lanes)
  safe k back =
      safe_by grain back k w least (Some r) (HasRisen lane.grains.faults now.grains.faults) (MoreFailed w n.store.lanes)
      (more_failed grain w n.store.lanes way.place lane no_lane at_lane now_inside)

  agrees : (back : List (List NamedDisk)) → HoldAllOf n.named n.store.lanes back → AllAgree grain (kept_by way.due d.point.kept) d.point.disks back
  agrees back hold = all_agree grain n.named (kept_by way.due d.point.kept) n.store.lanes d.point.disks back no_lane d.keeps.matches hold

  -- ---- metadata as it stands

  pub stands_recovered : MayBeRecovered d.begun.control.grain n.script n.named n.store.lanes w least d.keeps.image
  stands_recovered =
      recovered_of grain n.script n.named n.store.lanes w least r d.point.kept d.keeps.image d.asked d.keeps.sound d.keeps.kept
      (λ back hold. safe d.point.kept back (found grain w least way.place way.doing lane now d.steps d.before way.due d.point back in_hand (agrees back hold)))

  -- ---- with the record that is due

  pub put_recovered : (x : MetaRecord) (image : MetaImage) → way.due ≡ Some x → IsSoundImage image → kept_in image ≡ kept_after d.point.kept x → MayBeRecovered d.begun.control.grain n.script n.named n.store.lanes w least image
  put_recovered x image due sound says =
      let h : IsInHand grain w least way.place way.doing lane now d.steps d.before (Some x) d.point = subst (λ (o : Option MetaRecord). IsInHand grain w least way.place way.doing lane now d.steps d.before o d.point) due in_hand in
      let after = put grain w least way.place way.doing lane now d.steps d.before x d.point h in
      recovered_of grain n.script n.named n.store.lanes w least r (kept_after d.point.kept x) image d.asked sound says
      (λ back hold. safe (kept_after d.point.kept x) back
      (found grain w least way.place way.doing lane now d.steps d.before None (noted x d.point) back after.0 (subst (λ (o : Option MetaRecord). AllAgree grain (kept_by o d.point.kept) d.point.disks back) due (agrees back hold))))

  -- ---- where none is due

  module _ (none : way.due ≡ None) where
    pub hand_none : IsInHand d.begun.control.grain w least way.place way.doing (lane_in d.begun way.place) (lane_in n.store way.place) d.steps d.before None d.point
    hand_none = subst (λ (o : Option MetaRecord). IsInHand grain w least way.place way.doing lane now d.steps d.before o d.point) none in_hand

    agrees_none : (back : List (List NamedDisk)) → HoldAllOf n.named n.store.lanes back → AllAgree grain d.point.kept d.point.disks back
    agrees_none back hold = subst (λ (o : Option MetaRecord). AllAgree grain (kept_by o d.point.kept) d.point.disks back) none (agrees back hold)

    -- a write that is next was marked
    pub mark_recovered : (part : WritePart) (image : MetaImage) → next_of way.doing.steps ≡ Own part → list_any (is_unmarked part.volume.0 way.doing.steps.grain.0) d.point.kept.rows ≡ true → IsSoundImage image →
        kept_in image ≡ kept_after d.point.kept (Changing part.volume way.doing.steps.grain) → MayBeRecovered d.begun.control.grain n.script n.named n.store.lanes w least image
    mark_recovered part image e due sound says =
        let mark : MetaRecord = Changing part.volume way.doing.steps.grain in
        let after = put_mark grain w least way.place way.doing lane now d.steps d.before d.point hand_none part e due in
        recovered_of grain n.script n.named n.store.lanes w least r (kept_after d.point.kept mark) image d.asked sound says
        (λ back hold. safe (kept_after d.point.kept mark) back
        (found grain w least way.place way.doing lane now d.steps d.before None (noted mark d.point) back after (marked_agree grain d.point.kept part.volume.0 way.doing.steps.grain.0 d.point.disks back (agrees_none back hold))))

    -- the record of a move that copies nothing was put before it
    pub alone_recovered : (m : Move) (image : MetaImage) → next_of way.doing.steps ≡ NextMove m → copies_nothing (lane_in n.store way.place) way.doing.steps.place m ≡ true → IsSoundImage image →
        kept_in image ≡ kept_after d.point.kept (uncopied m) → MayBeRecovered d.begun.control.grain n.script n.named n.store.lanes w least image
    alone_recovered m image e copies sound says =
        recovered_of grain n.script n.named n.store.lanes w least r (kept_after d.point.kept (uncopied m)) image d.asked sound says
        (λ back hold. safe (kept_after d.point.kept (uncopied m)) back (alone_found grain w least way.place way.doing lane now d.steps d.before d.point hand_none m back e copies (agrees_none back hold)))
