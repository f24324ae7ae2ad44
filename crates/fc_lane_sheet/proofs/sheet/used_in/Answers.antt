use Rattle.std.specs.Prelude.{IsTrue}
use Rattle.fc_lane_sheet.proofs.LaneSheets.{first_is, used_from}
use Rattle.fc_lane_sheet.proofs.sheet.used_in.Goals as goal

pub returns : goal.returns
returns g c =
    used_from c.args.lanes.now c.requires c.cascade.result.now.sheet
    (first_is c.args.lanes.now c.requires c.index-lanes-0.result c.cascade.result.now c.index-lanes-0.is c.cascade.ensures)
    (IsTrue c.used.result) c.args.volume.0 c.used.ensures
