use Rattle.fc_check_lane.specs.Steps.{CanWriteTo}
use Rattle.fc_check_lane.specs.Answers.{IsOfGrain, WriteIn}
use Rattle.fc_check_lane.proofs.Answering.{here_can_fit, elsewhere_fit}
use Rattle.fc_check_lane.proofs.known.Known.write_at.Goals as goal

pub returns-then-here : goal.returns-then-here
returns-then-here c = here_can_fit (IsOfGrain c.args.self.now c.args.number c.args.entry.now) (WriteIn c.args.self.now c.args.part c.args.entry.now) (CanWriteTo c.args.self.now c.args.part.volume.0 c.args.number) _ _ c.if-here.true c.is_of_grain-here.ensures c.write_answers.ensures

pub returns-else-here : goal.returns-else-here
returns-else-here c = λ can. elsewhere_fit _ c.if-here.false c.is_of_grain-here.ensures
