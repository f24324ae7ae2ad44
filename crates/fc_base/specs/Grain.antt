-- Grain sizes and blocks.
use Rattle.std.specs.Prelude.{ℕ}
use Rattle.fc_base.specs.declared.size.GrainSize.{GrainSize}
use Rattle.fc_base.specs.declared.size.GrainSize.TheVariants.{K64, K256}

-- a block is 512 bytes
abbrev pub block_bytes : ℕ
block_bytes = 512

-- the size of a grain in KiB
abbrev pub grain_kib : GrainSize → ℕ
grain_kib K64 = 64
grain_kib K256 = 256

-- the size of a grain in bytes
abbrev pub grain_bytes : GrainSize → ℕ
grain_bytes K64 = 65536
grain_bytes K256 = 262144

-- the blocks of a grain
abbrev pub grain_blocks : GrainSize → ℕ
grain_blocks K64 = 128
grain_blocks K256 = 512
