-- A turn of the store: one access in the lane of its grain.
use Rattle.std.proofs.Common.{◌≡◌, ℕ, ◌%◌, ◌^◌, ◌<◌, length, slice_index_or, slice_set, Contains, refl, sym, ◌∙◌, ap, subst, arith}
use Rattle.fc_base.specs.declared.ids.VolId.{VolId}
use Rattle.fc_base.specs.declared.size.GrainSize.{GrainSize}
use Rattle.fc_base.specs.declared.volume.Volume.{Volume}
use Rattle.fc_entry.specs.declared.entry.Entry.{Entry}
use Rattle.fc_follow.specs.Following.{Followed, followed_entry}
use Rattle.fc_lane.specs.Lane.{LaneView, IsAsked, IsFollowing, IsSameLane, of}
use Rattle.fc_legal.specs.Steps.{after_access}
use Rattle.fc_legal.specs.Whole.{Whole, lanes, lane_of_grain, lane_at, part_at, followed_at}
use Rattle.fc_parts.specs.Law.{IsAt, IsInVolume, IsOfLane}
use Rattle.fc_parts.proofs.Accesses.{access_of_lane, lane_below}
use Rattle.fc_rules.specs.LaneFits.{FitsPart}
use Rattle.fc_rules.specs.LaneRight.{IsRightInLane}
use Rattle.fc_rules.specs.LaneTold.{LaneOf}
use Rattle.fc_lanes.specs.Asking.{request_of}
use Rattle.fc_stands.specs.Store.{StoreView, IsLaneAt, StandsFor}
use Rattle.fc_lanes.specs.declared.access.Access.{Access}
use Rattle.fc_stands.proofs.Accessing.{access_step, access_stands}
use Rattle.fc_stands.proofs.Turns.{IsTurn}
use Rattle.fc_stands.proofs.Turning.{IsInGrain, at_grain, inside_of, is_inside, part_fits, same_lane}

-- A lane with room for its next entry.
abbrev pub roomy : LaneView → ℕ → ℕ → LaneView
roomy v plan entry = record v { plan_room = plan; entry_room = entry }

-- The lane of a grain, at its place, with some room.
module _ (s : StoreView) (w : Whole) (g place : ℕ) (old ready : LaneView) (plan entry_room : ℕ)
    (stands : StandsFor s w) (at : place ≡ g % length s.lanes) (is_old : old ≡ slice_index_or s.lanes place old) (is_ready : ready ≡ roomy old plan entry_room) where
  pub place_is : place ≡ lane_of_grain w g
  place_is = at ∙ ap (λ n. g % n) stands.count

  pub inside : place < length s.lanes
  inside =
      let some : 0 < length s.lanes = omega (arith, stands.count, stands.stands.each_lane.some) in
      subst (λ p. p < length s.lanes) (sym at) (mod_below g (length s.lanes) some)
    where
      mod_below : (a n : ℕ) → 0 < n → a % n < n
      mod_below a n some = omega arith

  pub is_lane : IsLaneAt s.control.grain w (lane_of_grain w g) ready
  is_lane =
      let P : LaneView → Type 0 = λ v. IsLaneAt s.control.grain w place v in
      let here : IsLaneAt s.control.grain w place old = subst P (sym is_old) (stands.each place old inside) in
      let roomed : IsLaneAt s.control.grain w place (roomy old plan entry_room) =
      record { lane = here.lane; lanes_are = here.lanes_are; grain_is = here.grain_is; stands = record { lane = record { parts = here.stands.lane.parts; faults = here.stands.lane.faults; calls = here.stands.lane.calls }; rows = here.stands.rows; alike = here.stands.alike; rooms = here.stands.rooms } } in
      subst (λ p. IsLaneAt s.control.grain w p ready) place_is (subst P (sym is_ready) roomed)

  there_told : (v : Volume) → Contains s.control.tables.volumes v → Contains w.books.tables.volumes v
  there_told v there = subst (λ t. Contains t.volumes v) stands.control.tables there

  -- The access fits it.
  fits_lane : (v : Volume) (volume : VolId) (first count : ℕ) → Contains s.control.tables.volumes v → v.id ≡ volume → IsInGrain s.control.grain first count g → g < v.grains →
      FitsPart (of ready) (part_at s.control.grain w (lane_of_grain w g)) volume first count
  fits_lane v volume first count there named in_ within =
      let fits = part_fits s.control.grain stands.decisions w volume v first count g stands.stands (there_told v there) named in_ within in
      subst (λ (l : LaneOf). FitsPart l (part_at s.control.grain w (lane_of_grain w g)) volume first count) (sym (same_lane s.control.grain w (lane_of_grain w g) ready is_lane)) fits

  pub can_access : (v : Volume) (volume : VolId) (first count : ℕ) → Contains s.control.tables.volumes v → v.id ≡ volume → IsInGrain s.control.grain first count g → g < v.grains →
      (f : Followed) × IsFollowing ready f × FitsPart (of ready) f.told volume first count
  can_access v volume first count there named in_ within =
      (followed_at s.control.grain w (lane_of_grain w g), is_lane.stands, fits_lane v volume first count there named in_ within)

  -- And its entry is a turn.
  pub turn : (v : Volume) (volume : VolId) (access : Access) (first count number : ℕ) (entry : Entry) (new : LaneView) →
      Contains s.control.tables.volumes v → v.id ≡ volume → IsInGrain s.control.grain first count g → g < v.grains →
      ((f : Followed) → IsFollowing ready f → FitsPart (of ready) f.told volume first count →
      IsRightInLane (of ready) f.told entry × IsFollowing new (followed_entry (of ready) f entry)) →
      IsAsked number 0 (request_of access volume first count) entry →
      IsSameLane ready new →
      entry.calls < 2 ^ 32 →
      w.entries ≡ number →
      IsTurn (StandsFor (record s { lanes = slice_set s.lanes place new })) s.control.grain w (request_of access volume first count) entry
      (after_access s.control.grain w (lane_of_grain w g) entry)
  turn v volume access first count number entry new there named in_ within right asked same few counted =
      let grain : GrainSize = s.control.grain in
      let i : ℕ = lane_of_grain w g in
      let both = right (followed_at grain w i) is_lane.stands (fits_lane v volume first count there named in_ within) in
      let same_of : of ready ≡ lane_at grain w i = same_lane grain w i ready is_lane in
      let is_right : IsRightInLane (lane_at grain w i) (part_at grain w i) entry = subst (λ (l : LaneOf). IsRightInLane l (part_at grain w i) entry) same_of both.0 in
      let now : IsFollowing new (followed_entry (lane_at grain w i) (followed_at grain w i) entry) =
      subst (λ (l : LaneOf). IsFollowing new (followed_entry l (followed_at grain w i) entry)) same_of both.1 in
      let at_g : IsAt grain g entry.request = subst (λ r. IsAt grain g r) (sym asked.request_is) (at_grain grain access volume first count g in_.of_grain) in
      let below : i < lanes w = lane_below stands.decisions w g stands.stands in
      let of_lane : IsOfLane grain w i entry.request = access_of_lane grain w g entry.request at_g in
      let within_volume : IsInVolume grain w entry.request =
      subst (λ r. IsInVolume grain w r) (sym asked.request_is) (inside_of grain w access volume first count (is_inside grain w volume v first count g (there_told v there) named in_ within)) in
      let left : StandsFor (record s { lanes = slice_set s.lanes i new }) (after_access grain w i entry) =
      access_stands s w i entry new stands below of_lane is_right (same.lane ∙ is_lane.lane, same.lanes ∙ is_lane.lanes_are, same.grain ∙ is_lane.grain_is) now (omega (arith, few)) in
      record {
        by_main = asked.actor_is;
        asked = asked.request_is;
        step = access_step grain stands.decisions w i entry stands.stands below of_lane within_volume is_right (asked.number_is ∙ sym counted);
        counted = refl;
        actors = refl;
        stands = subst (λ p. StandsFor (record s { lanes = slice_set s.lanes p new }) (after_access grain w i entry)) (sym place_is) left;
      }
