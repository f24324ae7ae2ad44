use Rattle.fc_imaging.proofs.Standing.{image_says}
use Rattle.fc_imaging.proofs.image.image_of.Goals as goal

pub returns : goal.returns
returns g c = image_says c.told.result c.args.control.now c.args.lanes.now c.told.ensures
