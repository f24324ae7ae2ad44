-- Plain volumes, with the size of their grains.
use Rattle.fc_base.specs.declared.size.GrainSize.{GrainSize}
use Rattle.fc_entry.specs.Picture.{Picture}

pub record PlainVolumes : Type 0 where
  pub grain : GrainSize
  pub picture : Picture
