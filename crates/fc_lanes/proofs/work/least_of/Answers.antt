-- Each lane stands for something that could be told.
use Rattle.std.proofs.Common.{subst, sym}
use Rattle.fc_lane.specs.Lane.{LaneView, IsLaneOf}
use Rattle.fc_rules.specs.LaneTold.{LaneTold}
use Rattle.fc_lanes.proofs.work.least_of.Goals as goal

pub next_in-requires : goal.next_in-requires
next_in-requires g c =
    let P : LaneView → Type 0 = λ v. (told : LaneTold) × IsLaneOf v told in
    subst P (sym c.lane-item.is) (c.requires c.loop-lane.lane-index c.lane-item.result c.loop-lane-test.true)
