-- A turn of the store: a copy or cleaning in the lane of its grain.
use Rattle.std.proofs.Common.{◌≡◌, ℕ, ◌%◌, ◌^◌, ◌<◌, Bool, true, false, Some, length, slice_index_or, slice_set, refl, sym, ◌∙◌, ap, subst, arith}
use Rattle.std.specs.Prelude.{IsSome}
use Rattle.fc_base.specs.Sheet.{Sheet}
use Rattle.fc_base.specs.declared.ids.GrainNo.{GrainNo}
use Rattle.fc_base.specs.declared.size.GrainSize.{GrainSize}
use Rattle.fc_entry.specs.declared.entry.Entry.{Entry}
use Rattle.fc_follow.specs.Following.{Followed, followed_entry}
use Rattle.fc_lane.specs.Lane.{LaneView, IsAsked, IsFollowing, IsSameLane, of}
use Rattle.fc_legal.specs.Seconds.{Work, filled_by, fill_of, next_grain}
use Rattle.fc_legal.specs.Steps.{after_access}
use Rattle.fc_legal.specs.Whole.{Whole, lanes, lane_of_grain, lane_at, part_at, followed_at}
use Rattle.fc_parts.specs.Law.{IsAt, IsInVolume, IsOfLane}
use Rattle.fc_parts.proofs.Accesses.{access_of_lane, lane_below}
use Rattle.fc_rules.specs.LaneRight.{IsRightInLane}
use Rattle.fc_rules.specs.LaneTold.{LaneOf, place_of}
use Rattle.fc_stands.specs.Store.{StoreView, IsLaneAt, StandsFor}
use Rattle.fc_stands.proofs.Accessing.{access_step, access_stands}
use Rattle.fc_stands.proofs.CommandSheet.{sheet_of_part}
use Rattle.fc_lanes.proofs.LeastGrain.{work_at_least, work_in_lane}
use Rattle.fc_stands.proofs.Turns.{IsTurn}
use Rattle.fc_stands.proofs.Parting.{roomy, place_is, is_lane}
use Rattle.fc_stands.proofs.Turning.{same_lane}

-- It is at its grain.
at_fill : (grain : GrainSize) (cleans : Bool) (work : Work) (g : GrainNo) → work.cleans ≡ cleans → IsAt grain g.0 (fill_of work g)
at_fill grain true work g is =
    let P : Bool → Type 0 = λ b. IsAt grain g.0 (fill_of (record work { cleans = b }) g) in
    subst P (sym is) refl
at_fill grain false work g is =
    let P : Bool → Type 0 = λ b. IsAt grain g.0 (fill_of (record work { cleans = b }) g) in
    subst P (sym is) refl

fill_inside : (grain : GrainSize) (w : Whole) (cleans : Bool) (work : Work) (g : GrainNo) → work.cleans ≡ cleans → IsInVolume grain w (fill_of work g)
fill_inside grain w true work g is =
    let P : Bool → Type 0 = λ b. IsInVolume grain w (fill_of (record work { cleans = b }) g) in
    subst P (sym is) tt
fill_inside grain w false work g is =
    let P : Bool → Type 0 = λ b. IsInVolume grain w (fill_of (record work { cleans = b }) g) in
    subst P (sym is) tt

-- The next grain of all is one at which there is something to do.
work_at_next : (grain : GrainSize) (w : Whole) (work : Work) (g : GrainNo) → next_grain grain w work ≡ Some g → IsSome (filled_by work.cleans w.books.sheet.slots work.map.0 g.0)
unfolding next_grain
work_at_next grain w work g e = work_at_least work.cleans grain w.books.sheet.slots work.map.0 g e

-- And there is in its lane, at its place.
work_in_part : (grain : GrainSize) (w : Whole) (work : Work) (g : GrainNo) → 0 < lanes w → next_grain grain w work ≡ Some g →
    IsSome (filled_by work.cleans (part_at grain w (lane_of_grain w g.0)).sheet.slots work.map.0 (place_of (lane_at grain w (lane_of_grain w g.0)) g.0))
work_in_part grain w work g some e =
    let below : g.0 % lanes w < lanes w = mod_below g.0 (lanes w) some in
    let P : Sheet → Type 0 = λ s. IsSome (filled_by work.cleans s.slots work.map.0 (place_of (lane_at grain w (lane_of_grain w g.0)) g.0)) in
    subst P (sym (sheet_of_part grain w (lane_of_grain w g.0)))
    (work_in_lane work.cleans grain (lanes w) w.books.sheet.slots work.map.0 g.0 below (work_at_next grain w work g e))
  where
    mod_below : (a n : ℕ) → 0 < n → a % n < n
    mod_below a n some = omega arith

-- The lane of the grain, at its place, with some room.
module _ (s : StoreView) (w : Whole) (g : GrainNo) (place : ℕ) (old ready : LaneView) (plan entry_room : ℕ)
    (stands : StandsFor s w) (at : place ≡ g.0 % length s.lanes) (is_old : old ≡ slice_index_or s.lanes place old) (is_ready : ready ≡ roomy old plan entry_room) where
  here : IsLaneAt s.control.grain w (lane_of_grain w g.0) ready
  here = is_lane s w g.0 place old ready plan entry_room stands at is_old is_ready

  fits_fill : (work : Work) → next_grain s.control.grain w work ≡ Some g →
      IsSome (filled_by work.cleans (part_at s.control.grain w (lane_of_grain w g.0)).sheet.slots work.map.0 (place_of (of ready) g.0))
  fits_fill work next =
      let P : LaneOf → Type 0 = λ l. IsSome (filled_by work.cleans (part_at s.control.grain w (lane_of_grain w g.0)).sheet.slots work.map.0 (place_of l g.0)) in
      subst P (sym (same_lane s.control.grain w (lane_of_grain w g.0) ready here)) (work_in_part s.control.grain w work g stands.stands.each_lane.some next)

  pub can_fill : (work : Work) → next_grain s.control.grain w work ≡ Some g →
      (f : Followed) × IsFollowing ready f × IsSome (filled_by work.cleans f.told.sheet.slots work.map.0 (place_of (of ready) g.0))
  can_fill work next = (followed_at s.control.grain w (lane_of_grain w g.0), here.stands, fits_fill work next)

  pub of_lane : g.0 % ready.lanes ≡ ready.lane
  of_lane = ap (λ n. g.0 % n) here.lanes_are ∙ sym here.lane

  pub fill_turn : (work : Work) (number : ℕ) (entry : Entry) (new : LaneView) → next_grain s.control.grain w work ≡ Some g →
      ((f : Followed) → IsFollowing ready f → IsSome (filled_by work.cleans f.told.sheet.slots work.map.0 (place_of (of ready) g.0)) →
      IsRightInLane (of ready) f.told entry × IsFollowing new (followed_entry (of ready) f entry)) →
      IsAsked number 0 (fill_of work g) entry →
      IsSameLane ready new →
      entry.calls < 2 ^ 32 →
      w.entries ≡ number →
      IsTurn (StandsFor (record s { lanes = slice_set s.lanes place new })) s.control.grain w (fill_of work g) entry
      (after_access s.control.grain w (lane_of_grain w g.0) entry)
  fill_turn work number entry new next right asked same few counted =
      let grain : GrainSize = s.control.grain in
      let i : ℕ = lane_of_grain w g.0 in
      let both = right (followed_at grain w i) here.stands (fits_fill work next) in
      let same_of : of ready ≡ lane_at grain w i = same_lane grain w i ready here in
      let is_right : IsRightInLane (lane_at grain w i) (part_at grain w i) entry = subst (λ (l : LaneOf). IsRightInLane l (part_at grain w i) entry) same_of both.0 in
      let now : IsFollowing new (followed_entry (lane_at grain w i) (followed_at grain w i) entry) =
      subst (λ (l : LaneOf). IsFollowing new (followed_entry l (followed_at grain w i) entry)) same_of both.1 in
      let at_g : IsAt grain g.0 entry.request = subst (λ r. IsAt grain g.0 r) (sym asked.request_is) (at_fill grain work.cleans work g refl) in
      let below : i < lanes w = lane_below stands.decisions w g.0 stands.stands in
      let of_request : IsOfLane grain w i entry.request = access_of_lane grain w g.0 entry.request at_g in
      let left : StandsFor (record s { lanes = slice_set s.lanes i new }) (after_access grain w i entry) =
      access_stands s w i entry new stands below of_request is_right (same.lane ∙ here.lane, same.lanes ∙ here.lanes_are, same.grain ∙ here.grain_is) now (omega (arith, few)) in
      record {
        by_main = asked.actor_is;
        asked = asked.request_is;
        step = access_step grain stands.decisions w i entry stands.stands below of_request
            (subst (λ r. IsInVolume grain w r) (sym asked.request_is) (fill_inside grain w work.cleans work g refl)) is_right (asked.number_is ∙ sym counted);
        counted = refl;
        actors = refl;
        stands = subst (λ p. StandsFor (record s { lanes = slice_set s.lanes p new }) (after_access grain w i entry)) (sym (place_is s w g.0 place old ready plan entry_room stands at is_old is_ready)) left;
      }
