-- More faults were counted than are told.
use Rattle.std.proofs.Common.{◌≡◌, ℕ, ◌<◌, List, length, slice_index_or, sym, ap, subst, ◌∙◌}
use Rattle.std.proofs.lemmas.Option.{get_or_from_slice_get, slice_get-get_or, slice_get_within}
use Rattle.fc_base.specs.Count.{HasRisen}
use Rattle.fc_base.specs.declared.size.GrainSize.{GrainSize}
use Rattle.fc_grains.specs.Grains.{GrainsState}
use Rattle.fc_lane.specs.Lane.{LaneView}
use Rattle.fc_legal.specs.Whole.{Whole}
use Rattle.fc_noted.proofs.Holding.{HoldSame, as_many, same_at}
use Rattle.fc_noted.specs.Stopping.{MoreFailed}
use Rattle.fc_parts.proofs.Decisions.{faults_of_part}
use Rattle.fc_stands.specs.Store.{IsLaneAt}

-- in the lane at a place
failed_at : (w : Whole) (lanes : List LaneView) (place : ℕ) (d : LaneView) → place < length lanes → HasRisen (slice_index_or w.faults place 0) (slice_index_or lanes place d).grains.faults → MoreFailed w lanes
failed_at w lanes place d inside risen = (place, slice_index_or lanes place d, slice_get-get_or lanes place d inside, risen)

-- which stood for what is told
pub more_failed : (grain : GrainSize) (w : Whole) (lanes : List LaneView) (place : ℕ) (begun d : LaneView) → IsLaneAt grain w place begun → place < length lanes → HasRisen begun.grains.faults (slice_index_or lanes place d).grains.faults →
    MoreFailed w lanes
more_failed grain w lanes place begun d at inside risen =
    failed_at w lanes place d inside (subst (λ (n : ℕ). HasRisen n (slice_index_or lanes place d).grains.faults) (at.stands.lane.faults ∙ faults_of_part grain w place) risen)

-- by lanes that hold the same, too
pub failed_same : (w : Whole) (old new : List LaneView) → HoldSame old new → MoreFailed w old → MoreFailed w new
failed_same w old new same f =
    let lane : LaneView = f.1 in
    let inside : f.0 < length new = subst (λ (n : ℕ). f.0 < n) (sym (as_many old new same)) (slice_get_within old f.0 lane f.2) in
    let grains : (slice_index_or new f.0 lane).grains ≡ lane.grains =
    same_at old new same f.0 lane inside ∙ ap (λ (v : LaneView). v.grains) (get_or_from_slice_get old f.0 lane lane f.2) in
    failed_at w new f.0 lane inside (subst (λ (g : GrainsState). HasRisen (slice_index_or w.faults f.0 0) g.faults) (sym grains) f.3)
