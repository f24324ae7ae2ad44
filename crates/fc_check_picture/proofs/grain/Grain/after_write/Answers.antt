use Rattle.fc_check_picture.proofs.Writes.{blocks_written}
use Rattle.fc_check_picture.proofs.grain.Grain.after_write.Goals as goal

pub returns-in_ok-blocks-in-Some : goal.returns-in_ok-blocks-in-Some
returns-in_ok-blocks-in-Some g c = blocks_written c.args.from c.args.count (g.M.Mark.number c.args.mark) _ _ _ c.args.self.now c.self.view_is c.in-Some.is c.in_ok-blocks-in-Some.ensures
