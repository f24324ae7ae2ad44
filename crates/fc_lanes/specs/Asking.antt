-- What an access asks, grain by grain.
use Rattle.std.specs.Prelude.{ℕ, ◌+◌, ◌-◌}
use Rattle.fc_base.specs.declared.command.Command.{Command}
use Rattle.fc_base.specs.declared.command.Command.TheVariants.{Read as ReadLine, Write as WriteLine}
use Rattle.fc_base.specs.declared.ids.VolId.{VolId}
use Rattle.fc_base.specs.declared.name.Ref.{Ref}
use Rattle.fc_base.specs.declared.request.Request.{Request}
use Rattle.fc_base.specs.declared.request.Request.TheVariants.{Read as ReadBlocks, Write as WriteBlocks}
use Rattle.fc_base.specs.declared.size.GrainSize.{GrainSize}
use Rattle.fc_legal.specs.Asked.{first_in, end_in}
use Rattle.fc_lanes.specs.declared.access.Access.{Access}
use Rattle.fc_lanes.specs.declared.access.Access.TheVariants.{Read, Write}

-- The command of an access.
abbrev pub command_of : Access → Ref → ℕ → ℕ → Command
command_of Read volume block count = ReadLine volume block count
command_of (Write byte) volume block count = WriteLine volume block count byte

-- The request of an access of blocks of one grain.
abbrev pub request_of : Access → VolId → ℕ → ℕ → Request
request_of Read volume block count = ReadBlocks record { volume = volume; block = block; count = count }
request_of (Write byte) volume block count = WriteBlocks record { volume = volume; block = block; count = count; byte = byte }

-- The request for a grain of an access of blocks of several grains.
abbrev pub part_of : GrainSize → Access → VolId → ℕ → ℕ → ℕ → Request
part_of grain access volume block count g =
    let first = first_in grain block g in
    request_of access volume first (end_in grain (block + count) g - first)
