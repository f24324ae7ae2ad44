-- Canonical lines, on closed examples.
use Rattle.std.proofs.Common.{◌≡◌, true, false, Some, None, codes, refl}
use Rattle.fc_base.specs.CommandText.{command_text}
use Rattle.fc_base.specs.declared.command.Command.TheVariants.{Mkvdisk, Write, Mkfcmap, Stopfcmap, Lsfcmap}
use Rattle.fc_base.specs.declared.command.StopWay.TheVariants.{Force}
use Rattle.fc_base.specs.declared.command.Unit.TheVariants.{Gb}
use Rattle.fc_base.specs.declared.name.Ref.TheVariants.{Id, Name}
use Rattle.fc_base.specs.declared.size.GrainSize.TheVariants.{K64}
use Rattle.std.specs.Fmt.{digits}

mkvdisk_text : command_text (Mkvdisk (Some (codes "V0")) 1 (Some Gb) true) ≡ codes "mkvdisk -name V0 -size 1 -unit gb -thin"
unfolding digits
mkvdisk_text = refl

write_text : command_text (Write (Name (codes "V7")) 2047 1 10) ≡ codes "write V7 2047 1 0a"
unfolding digits
write_text = refl

mkfcmap_text : command_text (Mkfcmap (Id 0) (Name (codes "b")) None (Some (Id 1)) (Some 0) None (Some K64) true false) ≡ codes "mkfcmap -source 0 -target b -consistgrp 1 -copyrate 0 -grainsize 64 -incremental"
unfolding digits
mkfcmap_text = refl

stop_text : command_text (Stopfcmap (Id 3) Force) ≡ codes "stopfcmap -force 3"
unfolding digits
stop_text = refl

list_text : command_text (Lsfcmap None (Some 58)) ≡ codes "lsfcmap -delim :"
unfolding digits
list_text = refl
