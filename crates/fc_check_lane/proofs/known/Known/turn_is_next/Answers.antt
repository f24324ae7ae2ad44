use Rattle.std.proofs.Common.{◌<◌, length, arith}
use Rattle.fc_check_lane.specs.Answers.{IsOfLane, TurnIn}
use Rattle.fc_check_lane.proofs.Answering.{turn_there, turn_elsewhere}
use Rattle.fc_check_lane.proofs.known.Known.turn_is_next.Goals as goal

pub returns-then-here : goal.returns-then-here
returns-then-here c = turn_there (c.args.lane < length c.args.self.now.faults) (IsOfLane c.args.self.now c.args.lane c.args.entry.now) (TurnIn c.args.work c.args.self.now c.args.lane c.args.entry.now) _ _ (omega arith) c.if-here.true c.is_of_lane-here.ensures c.turn_answers.ensures

pub returns-else-here : goal.returns-else-here
returns-else-here c = turn_elsewhere _ c.if-here.false c.is_of_lane-here.ensures
