use Rattle.fc_check_lane.specs.Answers.{IsOfGrain, ReadIn}
use Rattle.fc_check_lane.proofs.Answering.{here_fit, elsewhere_fit}
use Rattle.fc_check_lane.proofs.known.Known.read_at.Goals as goal

pub returns-then-here : goal.returns-then-here
returns-then-here c = here_fit (IsOfGrain c.args.self.now c.args.number c.args.entry.now) (ReadIn c.args.self.now c.args.part c.args.entry.now) _ _ c.if-here.true c.is_of_grain-here.ensures c.read_answers.ensures

pub returns-else-here : goal.returns-else-here
returns-else-here c = elsewhere_fit _ c.if-here.false c.is_of_grain-here.ensures
