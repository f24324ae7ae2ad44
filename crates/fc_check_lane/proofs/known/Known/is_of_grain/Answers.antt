use Rattle.fc_check_lane.proofs.Answering.{of_grain_fit}
use Rattle.fc_check_lane.proofs.known.Known.is_of_grain.Goals as goal

pub returns : goal.returns
returns c = of_grain_fit c.args.self.now c.args.number _ c.args.entry.now _ c.lanes.ensures.count c.is_of_lane.ensures
