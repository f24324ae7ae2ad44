use Rattle.fc_lane_sheet.proofs.LaneSheets.{first_is, loop_from}
use Rattle.fc_lane_sheet.proofs.sheet.loop_in.Goals as goal

pub returns : goal.returns
returns g c =
    loop_from c.args.lanes.now c.requires c.cascade.result.now.sheet
    (first_is c.args.lanes.now c.requires c.index-lanes-0.result c.cascade.result.now c.index-lanes-0.is c.cascade.ensures)
    c.args.pairs.now c.loop_of.result c.loop_of.ensures
