-- What the lane at a place says and becomes, told of the store that has it.
use Rattle.std.specs.Prelude.{IsSome}
use Rattle.std.proofs.Common.{◌≡◌, ℕ, ◌<◌, length, slice_index_or, slice_set, sym, ◌∙◌, ap, subst}
use Rattle.std.proofs.lemmas.List.{get_or_default, get_or-set_same}
use Rattle.fc_base.specs.declared.ids.GrainNo.{GrainNo}
use Rattle.fc_base.specs.declared.ids.MapId.{MapId}
use Rattle.fc_follow.specs.Following.{Followed}
use Rattle.fc_lane.specs.Doing.{FitsAsk}
use Rattle.fc_lane.specs.Lane.{LaneView, IsFollowing, of}
use Rattle.fc_lane.specs.Workers.{ask_of, filled_slot}
use Rattle.fc_lane.specs.declared.worker.Worker.{Worker}
use Rattle.fc_lane.specs.declared.worker.Worker.TheVariants.{Copier, Cleaner}
use Rattle.fc_rules.specs.LaneTold.{LaneOf, LaneTold, place_of}
use Rattle.fc_stands.specs.Store.{StoreView}
use Rattle.fc_store.specs.Stepping.{IsInLane, lane_in, no_lane}

-- The store with another lane at the place.
abbrev pub with_lane : StoreView → ℕ → LaneView → StoreView
with_lane s place new = record { control = s.control; lanes = slice_set s.lanes place new }

-- The lane that is seen at a place is the lane there.
pub lane_there : {s inside : StoreView} {place : ℕ} {lane : LaneView} → inside ≡ s → place < length s.lanes → lane ≡ slice_index_or inside.lanes place lane → lane_in s place ≡ lane
lane_there {s} {inside} {place} {lane} seen lt is =
    get_or_default s.lanes place no_lane lane lt ∙ sym (is ∙ ap (λ (x : StoreView). slice_index_or x.lanes place lane) seen)

pub lane_left : {s inside : StoreView} {place : ℕ} (new : LaneView) → inside ≡ s → place < length s.lanes → lane_in (with_lane inside place new) place ≡ new
lane_left {s} {inside} {place} new seen lt = get_or-set_same inside.lanes place new no_lane (subst (λ (x : StoreView). place < length x.lanes) (sym seen) lt)

-- Nothing else changed.
pub in_lane : {s inside : StoreView} {place : ℕ} (new : LaneView) → inside ≡ s → place < length s.lanes → IsInLane place s (with_lane inside place new)
in_lane {s} {inside} {place} new seen lt =
    ap (λ (x : LaneView). with_lane inside place x) (sym (lane_left new seen lt))
    ∙ ap (λ (x : StoreView). with_lane x place (lane_in (with_lane inside place new) place)) seen

-- What holds of the lane at a place holds of the lane that is seen there.
pub of_seen : (P : LaneView → Type 0) {s inside : StoreView} {place : ℕ} {lane : LaneView} → inside ≡ s → place < length s.lanes → lane ≡ slice_index_or inside.lanes place lane →
    P (lane_in s place) → P lane
of_seen P seen lt is holds = subst P (lane_there seen lt is) holds

-- What a call of that lane says holds of the lane at the place, before and after.
pub at_place : (P : LaneView → LaneView → Type 0) {s inside : StoreView} {place : ℕ} {lane : LaneView} (new : LaneView) → inside ≡ s → place < length s.lanes →
    lane ≡ slice_index_or inside.lanes place lane → P lane new → P (lane_in s place) (lane_in (with_lane inside place new) place)
at_place P {s} {inside} {place} {lane} new seen lt is holds =
    subst (λ (x : LaneView). P (lane_in s place) x) (sym (lane_left new seen lt)) (subst (λ (x : LaneView). P x new) (sym (lane_there seen lt is)) holds)

-- What a worker asks fits where the mapping has a slot that it fills.
fills : (worker : Worker) (map : MapId) (grain : GrainNo) (l : LaneOf) (told : LaneTold) → FitsAsk l (ask_of worker map grain) told →
    IsSome (filled_slot worker told.sheet.slots map.0 (place_of l grain.0))
fills Copier map grain l told fits = fits
fills Cleaner map grain l told fits = fits

pub fills_some : {v : LaneView} (worker : Worker) (map : MapId) (grain : GrainNo) → (f : Followed) × IsFollowing v f × FitsAsk (of v) (ask_of worker map grain) f.told →
    (f : Followed) × IsFollowing v f × IsSome (filled_slot worker f.told.sheet.slots map.0 (place_of (of v) grain.0))
fills_some {v} worker map grain can = (can.0, can.1, fills worker map grain (of v) can.0.told can.2)
