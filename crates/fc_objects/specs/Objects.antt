-- Kinds of commands: reports, and those on objects.
use Rattle.std.specs.Prelude.{Bool, true, false}
use Rattle.fc_base.specs.declared.command.Command.{Command}
use Rattle.fc_base.specs.declared.command.Command.TheVariants.{Mkvdisk, Mkfcmap, Rmvdisk, Armfault, Advance, Rmfcmap, Mkfcconsistgrp, Rmfcconsistgrp, Lsfcmap, Lsfcconsistgrp, Lsvdisk, Lsfcmapprogress, Lsfcmapdependentmaps, Lsvdiskroom}

-- A report.
abbrev pub is_report : Command → Bool
is_report (Lsfcmap m delim) = true
is_report (Lsfcconsistgrp group delim) = true
is_report (Lsvdisk delim) = true
is_report (Lsfcmapprogress m delim) = true
is_report (Lsfcmapdependentmaps m delim) = true
is_report (Lsvdiskroom delim) = true
is_report command = false

-- One that makes or removes a volume, a mapping or a group; or that arms a fault; or an `advance`.
abbrev pub is_object : Command → Bool
is_object (Mkvdisk name size unit thin) = true
is_object (Mkfcmap source target name group copy_rate clean_rate grain_size incremental autodelete) = true
is_object (Rmvdisk volume) = true
is_object (Armfault volume number calls) = true
is_object (Advance seconds) = true
is_object (Rmfcmap m force) = true
is_object (Mkfcconsistgrp name) = true
is_object (Rmfcconsistgrp group force) = true
is_object command = false

-- One that makes a mapping.
abbrev pub makes_mapping : Command → Bool
makes_mapping (Mkfcmap source target name group copy_rate clean_rate grain_size incremental autodelete) = true
makes_mapping command = false
