use Rattle.std.proofs.Common.{◌∙◌}
use Rattle.fc_lane_sheet.proofs.LaneSheets.{restart_by_lanes, restart_fits}
use Rattle.fc_lane_sheet.proofs.sheet.restart_size.Goals as goal

pub sum_restart-requires : goal.sum_restart-requires
sum_restart-requires g c = restart_fits c.args.lanes.now c.requires c.args.map.0

pub returns : goal.returns
returns g c = c.sum_restart.ensures ∙ restart_by_lanes c.args.lanes.now c.requires c.args.map.0
