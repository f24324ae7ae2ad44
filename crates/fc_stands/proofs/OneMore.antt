-- One more entry, which no lane made, tells lanes nothing, and what stood still stands.
use Rattle.std.proofs.Common.{◌≡◌, ℕ, refl, sym, subst, arith}
use Rattle.fc_base.specs.declared.size.GrainSize.{GrainSize}
use Rattle.fc_follow.specs.Following.{Followed}
use Rattle.fc_lane.specs.Lane.{LaneView, IsFollowing}
use Rattle.fc_legal.specs.Stands.{Stands}
use Rattle.fc_legal.specs.Steps.{one_more}
use Rattle.fc_legal.specs.Whole.{Whole, part_at, followed_at}
use Rattle.fc_stands.specs.Store.{IsLaneAt, AreFewCalls}

same_part : (grain : GrainSize) (w : Whole) (i : ℕ) → followed_at grain (one_more w) i ≡ followed_at grain w i
unfolding part_at
same_part grain w i = refl

-- A lane stands for its part of it.
pub lane_still : (grain : GrainSize) (w : Whole) (i : ℕ) (v : LaneView) → IsLaneAt grain w i v → IsLaneAt grain (one_more w) i v
lane_still grain w i v is = record {
  lane = is.lane;
  lanes_are = is.lanes_are;
  grain_is = is.grain_is;
  stands = subst (λ (f : Followed). IsFollowing v f) (sym (same_part grain w i)) is.stands;
}

pub still_stands : (decisions : ℕ) (w : Whole) → Stands decisions w → Stands decisions (one_more w)
still_stands decisions w stands = record {
  sound = stands.sound;
  few = stands.few;
  plain = stands.plain;
  each_lane = record { some = stands.each_lane.some; pools = stands.each_lane.pools; calls = stands.each_lane.calls };
  firsts = stands.firsts;
  rows = record { each = stands.rows.each; distinct = stands.rows.distinct };
}

-- The calls are few.
pub still_few : (w : Whole) → AreFewCalls w → AreFewCalls (one_more w)
still_few w calls i = omega (arith, calls i)
