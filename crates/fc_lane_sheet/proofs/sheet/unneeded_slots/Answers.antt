use Rattle.fc_lane_sheet.proofs.LaneSheets.{unneeded_answer}
use Rattle.fc_lane_sheet.proofs.sheet.unneeded_slots.Goals as goal

pub returns : goal.returns
returns g c = unneeded_answer c.args.lanes.now c.requires c.unneeded_by.result c.unneeded_by.ensures
