use Rattle.std.proofs.Common.{arith}
use Rattle.fc_check_lane.proofs.Turning.{first_of_lane, none_of_lane}
use Rattle.fc_check_lane.proofs.turn.grains_in_lane.Goals as goal

pub returns-then-grains-lane : goal.returns-then-grains-lane
returns-then-grains-lane c = λ grain. none_of_lane c.args.grains c.args.lane c.args.lanes c.requires (omega arith)

pub returns : goal.returns
returns c = λ grain. first_of_lane c.args.grains c.args.lane c.args.lanes c.requires (omega arith)
