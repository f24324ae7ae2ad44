use Rattle.fc_check_picture.proofs.Writes.{equal_blocks}
use Rattle.fc_check_picture.proofs.grain.Grain.filled.Goals as goal

pub returns : goal.returns
returns g c = equal_blocks c.args.count (g.M.Mark.number c.args.mark) c.in_ok-blocks.blocks c.in_ok-blocks.ensures
