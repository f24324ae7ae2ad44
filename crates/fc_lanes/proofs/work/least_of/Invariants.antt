use Rattle.std.proofs.Common.{◌≡◌, None, take}
use Rattle.std.specs.Prelude.{fold}
use Rattle.fc_lane.specs.Lane.{LaneView}
use Rattle.fc_lanes.specs.Working.{least_in, lesser}
use Rattle.fc_lanes.proofs.work.least_of.Given as goal

abbrev pub invariant-loop-lane : goal.invariant-loop-lane
invariant-loop-lane g l = l.least ≡ fold (λ least (v : LaneView). lesser least (least_in l.work v)) None (take l.lane-index l.lanes)
