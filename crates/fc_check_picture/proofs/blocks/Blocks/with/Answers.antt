use Rattle.std.proofs.Common.{ap, map, ◌∙◌}
use Rattle.fc_check_picture.proofs.Marks.{marks_written}
use Rattle.fc_check_picture.proofs.blocks.Blocks.with.Goals as goal

pub returns : goal.returns
returns g c =
    marks_written g.M.Mark.number c.args.from c.args.count c.args.mark c.as_slice.result.now _ c.args.self.now (ap (map g.M.Mark.number) c.as_slice.ensures.value ∙ c.self.view_is) c.in_ok-marks.ensures
