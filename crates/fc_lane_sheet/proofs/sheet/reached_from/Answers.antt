use Rattle.fc_lane_sheet.specs.LaneSheet.{sheet_of}
use Rattle.fc_lane_sheet.proofs.Dependents.{begun}
use Rattle.fc_lane_sheet.proofs.sheet.reached_from.Goals as goal

pub loop-turn-init : goal.loop-turn-init
loop-turn-init g c = begun (sheet_of c.args.lanes.now) c.args.map c.new-reached.result c.add_more.new.reached c.new-reached.ensures c.in_ok-add_more.ensures
