-- The commands whose canonical lines read back: their numbers and names are in range, as those of every command
-- that the program holds, and a delimiter is one that a line can give.
use Rattle.std.specs.Prelude.{◌≡◌, ℕ, ◌^◌, ◌<◌, ◌≤◌, true, List, IfSome}
use Rattle.fc_base.specs.Names.{is_name}
use Rattle.fc_base.specs.declared.command.Command.{Command}
use Rattle.fc_base.specs.declared.command.Command.TheVariants.{Mkvdisk, Rmvdisk, Write, Read, Armfault, Advance, Mkfcmap, Prestartfcmap, Startfcmap, Stopfcmap, Rmfcmap, Mkfcconsistgrp, Prestartfcconsistgrp, Startfcconsistgrp, Stopfcconsistgrp, Rmfcconsistgrp, Lsfcmap, Lsfcconsistgrp, Lsvdisk, Lsfcmapprogress, Lsfcmapdependentmaps, Mkpreset, Lsvdiskroom}
use Rattle.fc_base.specs.declared.name.Ref.{Ref}
use Rattle.fc_base.specs.declared.name.Ref.TheVariants.{Id, Name}

-- a number below 2^32
abbrev pub IsNumber : ℕ → Type 0
IsNumber n = n < 2 ^ 32

-- a name
abbrev pub IsName : List ℕ → Type 0
IsName name = is_name name ≡ true

-- an id below 2^32, or a name
abbrev pub IsObject : Ref → Type 0
IsObject (Id id) = IsNumber id
IsObject (Name name) = IsName name

-- a printable byte other than the space
abbrev pub IsDelim : ℕ → Type 0
IsDelim delim = (33 ≤ delim) × (delim ≤ 126)

-- a command whose parts are in range
abbrev pub IsCommand : Command → Type 0
IsCommand (Mkvdisk name size unit thin) = IfSome name IsName × IsNumber size
IsCommand (Rmvdisk volume) = IsObject volume
IsCommand (Write volume block count byte) = IsObject volume × IsNumber block × IsNumber count × (byte < 256)
IsCommand (Read volume block count) = IsObject volume × IsNumber block × IsNumber count
IsCommand (Armfault volume grain calls) = IsObject volume × IsNumber grain × IsNumber calls
IsCommand (Advance seconds) = IsNumber seconds
IsCommand (Mkfcmap source target name group copy_rate clean_rate grain_size incremental autodelete) =
    IsObject source × IsObject target × IfSome name IsName × IfSome group IsObject × IfSome copy_rate IsNumber
    × IfSome clean_rate IsNumber
IsCommand (Prestartfcmap map restore) = IsObject map
IsCommand (Startfcmap map prep restore) = IsObject map
IsCommand (Stopfcmap map way) = IsObject map
IsCommand (Rmfcmap map force) = IsObject map
IsCommand (Mkfcconsistgrp name) = IfSome name IsName
IsCommand (Prestartfcconsistgrp group restore) = IsObject group
IsCommand (Startfcconsistgrp group prep restore) = IsObject group
IsCommand (Stopfcconsistgrp group way) = IsObject group
IsCommand (Rmfcconsistgrp group force) = IsObject group
IsCommand (Lsfcmap map delim) = IfSome map IsObject × IfSome delim IsDelim
IsCommand (Lsfcconsistgrp group delim) = IfSome group IsObject × IfSome delim IsDelim
IsCommand (Lsvdisk delim) = IfSome delim IsDelim
IsCommand (Lsfcmapprogress map delim) = IsObject map × IfSome delim IsDelim
IsCommand (Lsfcmapdependentmaps map delim) = IsObject map × IfSome delim IsDelim
IsCommand (Mkpreset source preset name) = IsObject source × IfSome name IsName
IsCommand (Lsvdiskroom delim) = IfSome delim IsDelim
