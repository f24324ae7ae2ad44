use Rattle.fc_check_picture.proofs.Marks.{equal_marks}
use Rattle.fc_check_picture.proofs.blocks.Blocks.filled.Goals as goal

pub returns : goal.returns
returns g c = equal_marks g.M.Mark.number c.args.count c.args.mark c.in_ok-marks.marks.items c.in_ok-marks.ensures
