-- The law is proved in `Lawful`.
use Rattle.fc_pictures.proofs.Lawful.{picture_law_holds}
use Rattle.fc_pictures.proofs.picture_law.Goals as goal

pub returns : goal.returns
returns c = picture_law_holds
