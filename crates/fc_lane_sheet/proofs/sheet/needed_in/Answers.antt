use Rattle.std.proofs.Common.{◌∙◌}
use Rattle.fc_lane_sheet.proofs.LaneSheets.{needed_by_lanes, needed_fits}
use Rattle.fc_lane_sheet.proofs.sheet.needed_in.Goals as goal

pub sum_needed-requires : goal.sum_needed-requires
sum_needed-requires g c = needed_fits c.args.lanes.now c.requires c.args.map.0

pub returns : goal.returns
returns g c = c.sum_needed.ensures ∙ needed_by_lanes c.args.lanes.now c.requires c.args.map.0
