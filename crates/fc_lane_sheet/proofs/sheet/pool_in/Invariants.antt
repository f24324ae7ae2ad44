use Rattle.std.proofs.Common.{◌≡◌, take}
use Rattle.std.specs.Prelude.{fold, min}
use Rattle.fc_base.specs.Pools.{of_kind}
use Rattle.fc_lane.specs.Lane.{LaneView}
use Rattle.fc_lane_sheet.proofs.sheet.pool_in.Given as goal

abbrev pub invariant-loop-lane : goal.invariant-loop-lane
invariant-loop-lane g l = l.least ≡ fold (λ least (v : LaneView). min least (of_kind l.kind v.grains.pool)) l.initial.least (take l.lane-index l.rest)
