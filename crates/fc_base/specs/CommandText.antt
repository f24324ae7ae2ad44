-- The canonical line of a command: its name, then the options that were given, in the manual's order, then
-- the operands, with one space between words. Numbers have no leading zeros, and the byte of a `write` is two
-- hexadecimal digits in lower case.
use Rattle.std.specs.Prelude.{ℕ, ◌/◌, ◌%◌, Bool, false, if◌then◌else◌, List, [], ◌∷◌, ◌++◌, Option, Some, None, codes, decimal}
use Rattle.std.specs.List.{join_with_byte}
use Rattle.std.specs.Fmt.{digit_glyph}
use Rattle.fc_base.specs.declared.command.Command.{Command}
use Rattle.fc_base.specs.declared.command.Command.TheVariants.{Mkvdisk, Rmvdisk, Write, Read, Armfault, Advance, Mkfcmap, Prestartfcmap, Startfcmap, Stopfcmap, Rmfcmap, Mkfcconsistgrp, Prestartfcconsistgrp, Startfcconsistgrp, Stopfcconsistgrp, Rmfcconsistgrp, Lsfcmap, Lsfcconsistgrp, Lsvdisk, Lsfcmapprogress, Lsfcmapdependentmaps, Mkpreset, Lsvdiskroom}
use Rattle.fc_base.specs.declared.command.Preset.{Preset}
use Rattle.fc_base.specs.declared.command.Preset.TheVariants.{Snapshot, Clone, Backup}
use Rattle.fc_base.specs.declared.command.StopWay.{StopWay}
use Rattle.fc_base.specs.declared.command.StopWay.TheVariants.{Plain, Force, Split}
use Rattle.fc_base.specs.declared.command.Unit.{Unit as SizeUnit}
use Rattle.fc_base.specs.declared.command.Unit.TheVariants.{Kb, Mb, Gb}
use Rattle.fc_base.specs.declared.name.Ref.{Ref}
use Rattle.fc_base.specs.declared.name.Ref.TheVariants.{Id, Name}
use Rattle.fc_base.specs.declared.size.GrainSize.{GrainSize}
use Rattle.fc_base.specs.declared.size.GrainSize.TheVariants.{K64, K256}

-- a name is its own word
abbrev pub name_word : List ℕ → List ℕ
name_word name = name

-- an object's id, or its name
abbrev pub ref_word : Ref → List ℕ
ref_word (Id id) = decimal id
ref_word (Name name) = name

-- the unit of a size
abbrev pub unit_word : SizeUnit → List ℕ
unit_word Kb = codes "kb"
unit_word Mb = codes "mb"
unit_word Gb = codes "gb"

-- the KiB of a grain
abbrev pub grain_size_word : GrainSize → List ℕ
grain_size_word K64 = codes "64"
grain_size_word K256 = codes "256"

-- what a copy is for
abbrev pub preset_word : Preset → List ℕ
preset_word Snapshot = codes "snapshot"
preset_word Clone = codes "clone"
preset_word Backup = codes "backup"

-- a byte as two hexadecimal digits in lower case
abbrev pub byte_word : ℕ → List ℕ
byte_word byte = digit_glyph false (byte / 16) ∷ digit_glyph false (byte % 16) ∷ []

-- a delimiter is its one byte
abbrev pub delim_word : ℕ → List ℕ
delim_word delim = delim ∷ []

-- an option that must be given, and its value
abbrev pub option_words : List ℕ → List ℕ → List (List ℕ)
option_words option value = option ∷ value ∷ []

-- an option and its value, where it was given
abbrev pub given_words : {T : Type 0} → List ℕ → (T → List ℕ) → Option T → List (List ℕ)
given_words option word None = []
given_words option word (Some value) = option_words option (word value)

-- an option without a value, where it was given
abbrev pub flag_words : List ℕ → Bool → List (List ℕ)
flag_words option given = if given then option ∷ [] else []

-- `-force` or `-split`
abbrev pub way_words : StopWay → List (List ℕ)
way_words Plain = []
way_words Force = codes "-force" ∷ []
way_words Split = codes "-split" ∷ []

-- the delimiter of a report
abbrev pub delim_words : Option ℕ → List (List ℕ)
delim_words delim = given_words (codes "-delim") delim_word delim

-- the object of a line that may name one
abbrev pub object_words : Option Ref → List (List ℕ)
object_words None = []
object_words (Some object) = ref_word object ∷ []

-- the words of a command, in canonical order
abbrev pub command_words : Command → List (List ℕ)
command_words (Mkvdisk name size unit thin) =
    codes "mkvdisk" ∷ given_words (codes "-name") name_word name
    ++ option_words (codes "-size") (decimal size)
    ++ given_words (codes "-unit") unit_word unit
    ++ flag_words (codes "-thin") thin
command_words (Rmvdisk volume) = codes "rmvdisk" ∷ ref_word volume ∷ []
command_words (Write volume block count byte) =
    codes "write" ∷ ref_word volume ∷ decimal block ∷ decimal count ∷ byte_word byte ∷ []
command_words (Read volume block count) =
    codes "read" ∷ ref_word volume ∷ decimal block ∷ decimal count ∷ []
command_words (Armfault volume grain calls) =
    codes "armfault" ∷ ref_word volume ∷ decimal grain ∷ decimal calls ∷ []
command_words (Advance seconds) = codes "advance" ∷ option_words (codes "-seconds") (decimal seconds)
command_words (Mkfcmap source target name group copy_rate clean_rate grain_size incremental autodelete) =
    codes "mkfcmap" ∷ option_words (codes "-source") (ref_word source)
    ++ option_words (codes "-target") (ref_word target)
    ++ given_words (codes "-name") name_word name
    ++ given_words (codes "-consistgrp") ref_word group
    ++ given_words (codes "-copyrate") decimal copy_rate
    ++ given_words (codes "-cleanrate") decimal clean_rate
    ++ given_words (codes "-grainsize") grain_size_word grain_size
    ++ flag_words (codes "-incremental") incremental
    ++ flag_words (codes "-autodelete") autodelete
command_words (Prestartfcmap map restore) =
    codes "prestartfcmap" ∷ flag_words (codes "-restore") restore ++ ref_word map ∷ []
command_words (Startfcmap map prep restore) =
    codes "startfcmap" ∷ flag_words (codes "-prep") prep ++ flag_words (codes "-restore") restore ++ ref_word map ∷ []
command_words (Stopfcmap map way) = codes "stopfcmap" ∷ way_words way ++ ref_word map ∷ []
command_words (Rmfcmap map force) = codes "rmfcmap" ∷ flag_words (codes "-force") force ++ ref_word map ∷ []
command_words (Mkfcconsistgrp name) = codes "mkfcconsistgrp" ∷ given_words (codes "-name") name_word name
command_words (Prestartfcconsistgrp group restore) =
    codes "prestartfcconsistgrp" ∷ flag_words (codes "-restore") restore ++ ref_word group ∷ []
command_words (Startfcconsistgrp group prep restore) =
    codes "startfcconsistgrp" ∷ flag_words (codes "-prep") prep ++ flag_words (codes "-restore") restore
    ++ ref_word group ∷ []
command_words (Stopfcconsistgrp group way) = codes "stopfcconsistgrp" ∷ way_words way ++ ref_word group ∷ []
command_words (Rmfcconsistgrp group force) =
    codes "rmfcconsistgrp" ∷ flag_words (codes "-force") force ++ ref_word group ∷ []
command_words (Lsfcmap map delim) = codes "lsfcmap" ∷ delim_words delim ++ object_words map
command_words (Lsfcconsistgrp group delim) = codes "lsfcconsistgrp" ∷ delim_words delim ++ object_words group
command_words (Lsvdisk delim) = codes "lsvdisk" ∷ delim_words delim
command_words (Lsfcmapprogress map delim) = codes "lsfcmapprogress" ∷ delim_words delim ++ ref_word map ∷ []
command_words (Lsfcmapdependentmaps map delim) =
    codes "lsfcmapdependentmaps" ∷ delim_words delim ++ ref_word map ∷ []
command_words (Mkpreset source preset name) =
    codes "mkpreset" ∷ option_words (codes "-source") (ref_word source)
    ++ option_words (codes "-preset") (preset_word preset)
    ++ given_words (codes "-name") name_word name
command_words (Lsvdiskroom delim) = codes "lsvdiskroom" ∷ delim_words delim

-- the canonical line of a command, without its end
abbrev pub command_text : Command → List ℕ
command_text command = join_with_byte 32 (command_words command)
