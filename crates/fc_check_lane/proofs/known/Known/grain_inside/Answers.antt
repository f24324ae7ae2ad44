use Rattle.fc_check_lane.proofs.Answering.{inside_then, inside_else}
use Rattle.fc_check_lane.proofs.known.Known.grain_inside.Goals as goal

pub returns-then-is_in_one : goal.returns-then-is_in_one
returns-then-is_in_one c =
    inside_then c.args.self.now c.args.volume c.args.block c.args.count c.grain_size-size.result c.grain_at.result c.is_in_one.result c.grain_of.result
    c.grain_size-size.ensures c.if-is_in_one.true c.is_in_one.ensures c.grain_at.ensures c.grain_of.ensures

pub returns-else-is_in_one : goal.returns-else-is_in_one
returns-else-is_in_one c =
    inside_else c.args.self.now c.args.volume c.args.block c.args.count c.grain_size-size.result c.is_in_one.result c.grain_size-size.ensures c.if-is_in_one.false c.is_in_one.ensures
