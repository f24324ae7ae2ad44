-- The table of lines: how each is spelled, where it may stand, and its options and operands.
use Rattle.std.specs.Prelude.{ℕ, Bool, true, false, List, [], ◌∷◌, Option, codes, find}
use Rattle.std.specs.Str.{bytes_eq}
use Rattle.fc_words.specs.declared.grammar.Verb.{Verb}
use Rattle.fc_words.specs.declared.grammar.Verb.TheVariants.{MakeVolume, RemoveVolume, WriteBlocks, ReadBlocks, ArmFault, PassTime, MakeMapping, PrepareMapping, StartMapping, StopMapping, RemoveMapping, MakeGroup, PrepareGroup, StartGroup, StopGroup, RemoveGroup, ListMappings, ListGroups, ListVolumes, ShowProgress, ListDependents, MakeCopy, ListRoom, BeginBlock, BeginActor, EndBlock}
use Rattle.fc_words.specs.declared.grammar.Flag.TheVariants.{Thin, Incremental, Autodelete, Restore, Prep, Force, Split}
use Rattle.fc_words.specs.declared.grammar.Setting.TheVariants.{Name, Size, Unit as SizeUnit, Source, Target, Group, CopyRate, CleanRate, GrainSize, Seconds, Delim, Preset}
use Rattle.fc_words.specs.declared.grammar.LineOption.{LineOption}
use Rattle.fc_words.specs.declared.grammar.LineOption.TheVariants.{Flag as OfFlag, Setting as OfSetting}
use Rattle.fc_words.specs.declared.grammar.Operand.{Operand}
use Rattle.fc_words.specs.declared.grammar.Operand.TheVariants.{Object, Block as FirstBlock, Count, Byte, Grain, Calls, Actor, Role, Turns}
use Rattle.fc_words.specs.declared.grammar.Family.{Family}
use Rattle.fc_words.specs.declared.grammar.Family.TheVariants.{Storage, Access, CopyServices, Block}
use Rattle.fc_base.specs.declared.command.Scope.{Scope}
use Rattle.fc_base.specs.declared.command.Scope.TheVariants.{Free, Host, Admin, Worker, NoActor}

-- the first word of a line
abbrev pub verb_spelling : Verb → List ℕ
verb_spelling MakeVolume = codes "mkvdisk"
verb_spelling RemoveVolume = codes "rmvdisk"
verb_spelling WriteBlocks = codes "write"
verb_spelling ReadBlocks = codes "read"
verb_spelling ArmFault = codes "armfault"
verb_spelling PassTime = codes "advance"
verb_spelling MakeMapping = codes "mkfcmap"
verb_spelling PrepareMapping = codes "prestartfcmap"
verb_spelling StartMapping = codes "startfcmap"
verb_spelling StopMapping = codes "stopfcmap"
verb_spelling RemoveMapping = codes "rmfcmap"
verb_spelling MakeGroup = codes "mkfcconsistgrp"
verb_spelling PrepareGroup = codes "prestartfcconsistgrp"
verb_spelling StartGroup = codes "startfcconsistgrp"
verb_spelling StopGroup = codes "stopfcconsistgrp"
verb_spelling RemoveGroup = codes "rmfcconsistgrp"
verb_spelling ListMappings = codes "lsfcmap"
verb_spelling ListGroups = codes "lsfcconsistgrp"
verb_spelling ListVolumes = codes "lsvdisk"
verb_spelling ShowProgress = codes "lsfcmapprogress"
verb_spelling ListDependents = codes "lsfcmapdependentmaps"
verb_spelling MakeCopy = codes "mkpreset"
verb_spelling ListRoom = codes "lsvdiskroom"
verb_spelling BeginBlock = codes "together"
verb_spelling BeginActor = codes "actor"
verb_spelling EndBlock = codes "end"

-- all lines, in the manual's order
abbrev pub all_verbs : List Verb
all_verbs =
    MakeVolume ∷ RemoveVolume ∷ WriteBlocks ∷ ReadBlocks ∷ ArmFault ∷ PassTime
    ∷ MakeMapping ∷ PrepareMapping ∷ StartMapping ∷ StopMapping ∷ RemoveMapping
    ∷ MakeGroup ∷ PrepareGroup ∷ StartGroup ∷ StopGroup ∷ RemoveGroup
    ∷ ListMappings ∷ ListGroups ∷ ListVolumes ∷ ShowProgress ∷ ListDependents ∷ MakeCopy
    ∷ ListRoom ∷ BeginBlock ∷ BeginActor ∷ EndBlock ∷ []

-- the line whose first word this is
abbrev pub verb_of : List ℕ → Option Verb
verb_of word = find (λ verb. bytes_eq (verb_spelling verb) word) all_verbs

-- where a line may stand
abbrev pub family_of : Verb → Family
family_of MakeVolume = Storage
family_of RemoveVolume = Storage
family_of ArmFault = Storage
family_of PassTime = Storage
family_of MakeCopy = Storage
family_of ListRoom = Storage
family_of BeginBlock = Storage
family_of WriteBlocks = Access
family_of ReadBlocks = Access
family_of BeginActor = Block
family_of EndBlock = Block
family_of _ = CopyServices

-- whether a scope has lines of this kind
abbrev pub scope_has : Scope → Family → Bool
scope_has Free Block = false
scope_has Free _ = true
scope_has Host Block = true
scope_has Host Access = true
scope_has Host _ = false
scope_has Admin Block = true
scope_has Admin CopyServices = true
scope_has Admin _ = false
scope_has Worker Block = true
scope_has Worker _ = false
scope_has NoActor Block = true
scope_has NoActor _ = false

-- the word that names an option
abbrev pub option_spelling : LineOption → List ℕ
option_spelling (OfSetting Name) = codes "-name"
option_spelling (OfSetting Size) = codes "-size"
option_spelling (OfSetting SizeUnit) = codes "-unit"
option_spelling (OfSetting Source) = codes "-source"
option_spelling (OfSetting Target) = codes "-target"
option_spelling (OfSetting Group) = codes "-consistgrp"
option_spelling (OfSetting CopyRate) = codes "-copyrate"
option_spelling (OfSetting CleanRate) = codes "-cleanrate"
option_spelling (OfSetting GrainSize) = codes "-grainsize"
option_spelling (OfSetting Seconds) = codes "-seconds"
option_spelling (OfSetting Delim) = codes "-delim"
option_spelling (OfSetting Preset) = codes "-preset"
option_spelling (OfFlag Thin) = codes "-thin"
option_spelling (OfFlag Incremental) = codes "-incremental"
option_spelling (OfFlag Autodelete) = codes "-autodelete"
option_spelling (OfFlag Restore) = codes "-restore"
option_spelling (OfFlag Prep) = codes "-prep"
option_spelling (OfFlag Force) = codes "-force"
option_spelling (OfFlag Split) = codes "-split"

-- the options of a line, in canonical order
abbrev pub options_of : Verb → List LineOption
options_of MakeVolume = OfSetting Name ∷ OfSetting Size ∷ OfSetting SizeUnit ∷ OfFlag Thin ∷ []
options_of PassTime = OfSetting Seconds ∷ []
options_of MakeMapping =
    OfSetting Source ∷ OfSetting Target ∷ OfSetting Name ∷ OfSetting Group ∷ OfSetting CopyRate ∷ OfSetting CleanRate
    ∷ OfSetting GrainSize ∷ OfFlag Incremental ∷ OfFlag Autodelete ∷ []
options_of MakeGroup = OfSetting Name ∷ []
options_of MakeCopy = OfSetting Source ∷ OfSetting Preset ∷ OfSetting Name ∷ []
options_of PrepareMapping = OfFlag Restore ∷ []
options_of PrepareGroup = OfFlag Restore ∷ []
options_of StartMapping = OfFlag Prep ∷ OfFlag Restore ∷ []
options_of StartGroup = OfFlag Prep ∷ OfFlag Restore ∷ []
options_of StopMapping = OfFlag Force ∷ OfFlag Split ∷ []
options_of StopGroup = OfFlag Force ∷ OfFlag Split ∷ []
options_of RemoveMapping = OfFlag Force ∷ []
options_of RemoveGroup = OfFlag Force ∷ []
options_of ListMappings = OfSetting Delim ∷ []
options_of ListGroups = OfSetting Delim ∷ []
options_of ListVolumes = OfSetting Delim ∷ []
options_of ShowProgress = OfSetting Delim ∷ []
options_of ListDependents = OfSetting Delim ∷ []
options_of ListRoom = OfSetting Delim ∷ []
options_of _ = []

-- the option of a line that a word names
abbrev pub option_of : Verb → List ℕ → Option LineOption
option_of verb word = find (λ option. bytes_eq (option_spelling option) word) (options_of verb)

-- the operands of a line, in order; turns follow the roles that take them alone
abbrev pub operands_of : Verb → List Operand
operands_of WriteBlocks = Object ∷ FirstBlock ∷ Count ∷ Byte ∷ []
operands_of ReadBlocks = Object ∷ FirstBlock ∷ Count ∷ []
operands_of ArmFault = Object ∷ Grain ∷ Calls ∷ []
operands_of BeginActor = Actor ∷ Role ∷ Turns ∷ []
operands_of MakeVolume = []
operands_of PassTime = []
operands_of MakeMapping = []
operands_of MakeGroup = []
operands_of ListVolumes = []
operands_of MakeCopy = []
operands_of ListRoom = []
operands_of BeginBlock = []
operands_of EndBlock = []
operands_of _ = Object ∷ []
