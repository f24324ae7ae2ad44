-- The size, the kind and the name of a new volume.
use Rattle.std.specs.Prelude.{ℕ, Bool, true, false, List, ◌++◌, Option, Some, None, codes, decimal}
use Rattle.fc_base.specs.declared.command.Unit.{Unit as SizeUnit}
use Rattle.fc_base.specs.declared.command.Unit.TheVariants.{Kb, Mb, Gb}
use Rattle.fc_base.specs.declared.disk.DiskKind.{DiskKind}
use Rattle.fc_base.specs.declared.disk.DiskKind.TheVariants.{Flat, Thin}

-- the bytes of a size without a unit are in mb; a kb is 1,024 bytes, an mb 1,024 kb, a gb 1,024 mb
abbrev pub unit_bytes : Option SizeUnit → ℕ
unit_bytes None = 1048576
unit_bytes (Some Kb) = 1024
unit_bytes (Some Mb) = 1048576
unit_bytes (Some Gb) = 1073741824

abbrev pub kind_of : Bool → DiskKind
kind_of true = Thin
kind_of false = Flat

-- a volume's name: the one that was given, or `vdisk` and its id
abbrev pub volume_name : Option (List ℕ) → ℕ → List ℕ
volume_name (Some name) id = name
volume_name None id = codes "vdisk" ++ decimal id
