-- How many calls of disks a write makes.
use Rattle.std.specs.Prelude.{ℕ, Bool, ◌==◌, cond}
use Rattle.fc_base.specs.Grain.{grain_blocks}
use Rattle.fc_base.specs.declared.request.WritePart.{WritePart}
use Rattle.fc_base.specs.declared.size.GrainSize.{GrainSize}

-- whether a write covers its whole grain
abbrev pub covers_grain : GrainSize → WritePart → Bool
covers_grain grain part = part.count == grain_blocks grain

-- a write of a part of a grain reads the rest first
abbrev pub calls_of_write : GrainSize → WritePart → ℕ
calls_of_write grain part = cond (covers_grain grain part) 1 2
