use Rattle.std.proofs.Common.{◌∙◌}
use Rattle.fc_lane_sheet.proofs.LaneSheets.{held_by_lanes, held_fits}
use Rattle.fc_lane_sheet.proofs.sheet.held_in.Goals as goal

pub sum_held-requires : goal.sum_held-requires
sum_held-requires g c = held_fits c.args.lanes.now c.requires c.args.map.0

pub returns : goal.returns
returns g c = c.sum_held.ensures ∙ held_by_lanes c.args.lanes.now c.requires c.args.map.0
