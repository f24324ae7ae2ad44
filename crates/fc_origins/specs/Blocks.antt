-- Origins of blocks.
use Rattle.std.specs.Prelude.{ℕ}
use Rattle.fc_origins.specs.Origins.{origin_of}
use Rattle.fc_origins.specs.declared.origin.Origin.{Origin}

-- The origin of each byte of a block.
abbrev pub number_of : Origin → ℕ
number_of origin = origin_of origin.write
