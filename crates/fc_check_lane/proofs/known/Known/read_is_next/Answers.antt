use Rattle.fc_check_lane.proofs.Answering.{read_inside, outside_fit}
use Rattle.fc_check_lane.proofs.known.Known.read_is_next.Goals as goal

pub returns-in-Some : goal.returns-in-Some
returns-in-Some c = read_inside c.args.self.now c.args.part _ c.args.entry.now _ c.in-Some.ensures c.read_at.ensures

pub returns-in-None : goal.returns-in-None
returns-in-None c = outside_fit c.in-None.ensures
