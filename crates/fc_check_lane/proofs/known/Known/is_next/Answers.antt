use Rattle.fc_check_lane.proofs.Lawful.{next_all}
use Rattle.fc_check_lane.proofs.known.Known.is_next.Goals as goal

pub returns : goal.returns
returns c = next_all c.args.self.now c.args.entry.now c.comes_next.result c.comes_next.ensures
