-- The half that is read stands as the writer has it.
use Rattle.fc_meta.proofs.ReadAgain.{rests_long, read_again}
use Rattle.fc_meta.proofs.meta.Meta.image.Goals as goal

pub read_image-requires : goal.read_image-requires
read_image-requires g c =
    let m = c.args.self.now in
    rests_long m.half m.generation m.used m.other_is_open c.requires.image (g.M.MetaDisk.seen m.disk) c.requires.rests

pub returns-in-Ok-clause-image : goal.returns-in-Ok-clause-image
returns-in-Ok-clause-image g c =
    let m = c.args.self.now in
    read_again m.half m.generation m.used m.other_is_open c.requires.image c.in-Ok.image c.in-Ok.field-0-1 (g.M.MetaDisk.seen m.disk) c.requires.rests c.in-Ok.ensures.image
