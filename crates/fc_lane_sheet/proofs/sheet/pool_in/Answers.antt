use Rattle.fc_lane_sheet.proofs.LaneSheets.{least_by_lanes}
use Rattle.fc_lane_sheet.proofs.sheet.pool_in.Goals as goal

pub returns-after-loop-lane : goal.returns-after-loop-lane
returns-after-loop-lane g c =
    least_by_lanes c.args.kind c.args.lanes.now c.in-Some.rest.now c.in-Some.first.now c.pool-least.result c.loop-lane.least c.loop-lane.lane-index
    c.in-Some.ensures.cases.0 c.pool-least.ensures c.loop-lane-test.false c.loop-lane.invariant
