use Rattle.std.proofs.Common.{◌∙◌}
use Rattle.fc_lane_sheet.proofs.LaneSheets.{room_by_lanes}
use Rattle.fc_lane_sheet.proofs.sheet.room_in.Goals as goal

pub returns : goal.returns
returns g c = c.sum_room.ensures ∙ room_by_lanes c.args.lanes.now c.requires c.args.volume.0
