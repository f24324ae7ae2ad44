use Rattle.fc_check_lane.proofs.Turning.{next_grain_is}
use Rattle.fc_check_lane.proofs.known.Known.next_grain.Goals as goal

pub returns : goal.returns
returns c = next_grain_is c.args.self.now c.args.map c.args.cleans c.new.result c.least_of.result c.new.ensures c.least_of.ensures
