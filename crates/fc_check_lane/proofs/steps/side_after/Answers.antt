use Rattle.fc_check_lane.proofs.Stepping.{side_is}
use Rattle.fc_check_lane.proofs.steps.side_after.Goals as goal

pub returns : goal.returns
returns c =
    side_is c.args.sheet.now c.in_ok-after.after c.make_moves.new.sheet c.args.moves.now c.args.live c.args.grain c.reads_own.result c.lost_side.result
    c.in_ok-after.ensures c.make_moves.ensures c.reads_own.ensures c.lost_side.ensures
