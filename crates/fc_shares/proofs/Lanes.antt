-- Shares of lanes, as the lanes go on.
use Rattle.std.proofs.Common.{ℕ, ◌+◌, ◌-◌, ◌^◌, ◌≡◌, min, refl, ◌∙◌, sym, subst, arith}
use Rattle.fc_grains.specs.Grains.{stopped}
use Rattle.fc_lane.specs.Lane.{LaneView, IsSameLane, KeepsQuiet, of}
use Rattle.fc_legal.specs.Whole.{lanes, lane_at}
use Rattle.fc_stands.proofs.Turning.{same_lane}
use Rattle.fc_stands.proofs.Since.{near_here, near_on}
use Rattle.fc_stands.specs.Quiet.{KeepsFaults, KeepsNear}
use Rattle.fc_shares.specs.Situation.{Situation, HasLane}

-- ---- a lane since it began

pub same_here : (v : LaneView) → IsSameLane v v
same_here v = record { lane = refl; lanes = refl; grain = refl; disks = refl; silent = refl }

pub same_on : (u v w : LaneView) → IsSameLane u v → IsSameLane v w → IsSameLane u w
same_on u v w first then = record {
  lane = then.lane ∙ first.lane;
  lanes = then.lanes ∙ first.lanes;
  grain = then.grain ∙ first.grain;
  disks = then.disks ∙ first.disks;
  silent = then.silent ∙ first.silent;
}

-- Counts that stand still at a last value.
stands_still : (last n x : ℕ) → x ≡ min n last → x ≡ min (x + 0) last
stands_still last n x is = omega (arith, is)

counts_on : (last a b x y z : ℕ) → y ≡ min (x + a) last → z ≡ min (y + b) last → z ≡ min (x + (a + b)) last
counts_on last a b x y z first then = omega (arith, first, then)

counts_from : (last n calls x y : ℕ) → x ≡ min n last → y ≡ min (n + calls) last → y ≡ min (x + calls) last
counts_from last n calls x y was now = omega (arith, was, now)

pub faults_here : (v : LaneView) (calls : ℕ) → v.grains.calls ≡ stopped calls → KeepsFaults v v
faults_here v calls is = record { quiet = λ quiet. (quiet, refl); calls = 0; counted = stands_still (2 ^ 64 - 1) calls v.grains.calls is; near = near_here v }

pub faults_on : (u v w : LaneView) → KeepsFaults u v → KeepsFaults v w → KeepsFaults u w
faults_on u v w first then = record {
  quiet = λ quiet.
      let mid = first.quiet quiet in
      let last = then.quiet mid.0 in
      (last.0, last.1 ∙ mid.1);
  calls = first.calls + then.calls;
  counted = counts_on (2 ^ 64 - 1) first.calls then.calls u.grains.calls v.grains.calls w.grains.calls first.counted then.counted;
  near = near_on first.calls then.calls u v w first.near then.near;
}

-- By the calls that are told of it, before and after.
pub faults_by : (u v : LaneView) (before calls : ℕ) → u.grains.calls ≡ stopped before → v.grains.calls ≡ stopped (before + calls) → KeepsQuiet u v → KeepsNear calls u v → KeepsFaults u v
faults_by u v before calls was now quiet near =
    record { quiet = quiet; calls = calls; counted = counts_from (2 ^ 64 - 1) before calls u.grains.calls v.grains.calls was now; near = near }

-- ---- its share

pub place : (s : Situation) (i : ℕ) (opening v : LaneView) → HasLane s i opening v → of v ≡ lane_at s.grain s.whole i
place s i opening v share = same_lane s.grain s.whole i v share.stands

pub count : (s : Situation) (i : ℕ) (opening v : LaneView) → HasLane s i opening v → lanes s.whole ≡ opening.lanes
count s i opening v share = sym share.stands.lanes_are ∙ share.same.lanes

-- Room that is made in it takes nothing from its share.
roomy : (s : Situation) (i : ℕ) (opening v : LaneView) (plan entry : ℕ) → HasLane s i opening v → HasLane s i opening (record v { plan_room = plan; entry_room = entry })
roomy s i opening v plan entry share =
    let follows = share.stands.stands in
    record {
      within = share.within;
      stands = record {
        lane = share.stands.lane;
        lanes_are = share.stands.lanes_are;
        grain_is = share.stands.grain_is;
        stands = record { lane = record { parts = follows.lane.parts; faults = follows.lane.faults; calls = follows.lane.calls }; rows = follows.rows; alike = follows.alike; rooms = follows.rooms };
      };
      same = record { lane = share.same.lane; lanes = share.same.lanes; grain = share.same.grain; disks = share.same.disks; silent = share.same.silent };
      faults = record { quiet = share.faults.quiet; calls = share.faults.calls; counted = share.faults.counted; near = share.faults.near };
    }

pub ready : (s : Situation) (i : ℕ) (opening old new : LaneView) → HasLane s i opening old → new ≡ record old { plan_room = new.plan_room; entry_room = new.entry_room } → HasLane s i opening new
ready s i opening old new share made =
    let P : LaneView → Type 0 = λ v. HasLane s i opening v in
    subst P (sym made) (roomy s i opening old new.plan_room new.entry_room share)
