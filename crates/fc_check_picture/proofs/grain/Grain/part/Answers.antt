use Rattle.fc_check_picture.proofs.Marks.{part_fit}
use Rattle.fc_check_picture.proofs.grain.Grain.part.Goals as goal

pub returns-in-Some-clause-marks : goal.returns-in-Some-clause-marks
returns-in-Some-clause-marks g c =
    part_fit g.M.Mark.number c.args.from c.args.count _ _ _ _ c.args.self.now _ c.self.view_is c.in-Some.is c.as_slice.ensures c.rest_of.ensures c.front_of.ensures
