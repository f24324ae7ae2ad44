use Rattle.std.proofs.Common.{Some, None}
use Rattle.fc_lane_sheet.proofs.HeldRanges.{lane_answers, lane_of_grain}
use Rattle.fc_lane_sheet.proofs.kept.holds.Goals as goal

pub holder-requires-clause-there : goal.holder-requires-clause-there
holder-requires-clause-there g c =
    (lane_of_grain c.args.lanes.now c.requires.have c.args.slot c.args.grain c.requires.there c.index-lanes-lane.result c.cascade.result.now c.index-lanes-lane.is c.cascade.ensures).0

pub returns-in-Some : goal.returns-in-Some
returns-in-Some g c =
    lane_answers c.args.lanes.now c.requires.have c.args.slot c.args.grain c.requires.there c.index-lanes-lane.result c.cascade.result.now c.index-lanes-lane.is c.cascade.ensures
    (Some c.in-Some.holder) c.in-Some.ensures

pub returns-in-None : goal.returns-in-None
returns-in-None g c =
    lane_answers c.args.lanes.now c.requires.have c.args.slot c.args.grain c.requires.there c.index-lanes-lane.result c.cascade.result.now c.index-lanes-lane.is c.cascade.ensures
    None c.in-None.ensures
