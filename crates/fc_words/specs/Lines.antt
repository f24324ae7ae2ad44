-- The line that its words make, or its first fault. Words are numbered from 1, from the left.
use Rattle.std.specs.Prelude.{ℕ, ◌+◌, Bool, false, ◌||◌, ◌==◌, if◌then◌else◌, List, [], ◌∷◌, length, Option, Some, None, Result, Ok, Err, nat_lt, codes, find}
use Rattle.std.specs.Str.{bytes_eq}
use Rattle.fc_base.specs.declared.command.Command.{Command}
use Rattle.fc_base.specs.declared.command.Command.TheVariants.{Mkvdisk, Rmvdisk, Write, Read, Armfault, Advance, Mkfcmap, Prestartfcmap, Startfcmap, Stopfcmap, Rmfcmap, Mkfcconsistgrp, Prestartfcconsistgrp, Startfcconsistgrp, Stopfcconsistgrp, Rmfcconsistgrp, Lsfcmap, Lsfcconsistgrp, Lsvdisk, Lsfcmapprogress, Lsfcmapdependentmaps, Mkpreset, Lsvdiskroom}
use Rattle.fc_base.specs.declared.command.Line.{Line}
use Rattle.fc_base.specs.declared.command.Line.TheVariants.{Blank, Command as OfCommand, Together, Actor as OfActor, End}
use Rattle.fc_base.specs.declared.command.Role.TheVariants.{Host as HostRole, Admin as AdminRole, Copier as CopierRole, Cleaner as CleanerRole}
use Rattle.fc_base.specs.declared.command.Scope.{Scope}
use Rattle.fc_base.specs.declared.command.Scope.TheVariants.{NoActor}
use Rattle.fc_base.specs.declared.command.StopWay.{StopWay}
use Rattle.fc_base.specs.declared.command.StopWay.TheVariants.{Plain, Force, Split}
use Rattle.fc_base.specs.declared.fault.RequiredOption.TheVariants.{Size, Seconds, Source, Target, Preset}
use Rattle.fc_base.specs.declared.fault.WordFault.{WordFault}
use Rattle.fc_base.specs.declared.fault.WordFault.TheVariants.{UnknownCommand, UnknownOption, MissingOption, MissingWord, RepeatedOption, LongLine, NoActor as NoActorYet, NotInBlock}
use Rattle.fc_base.specs.declared.limits.TheConstants.{MAX_LINE_BYTES}
use Rattle.fc_words.specs.declared.given.Flags.{Flags}
use Rattle.fc_words.specs.declared.given.Given.{Given}
use Rattle.fc_words.specs.declared.given.Operands.{Operands}
use Rattle.fc_words.specs.declared.given.Settings.{Settings}
use Rattle.fc_words.specs.declared.given.RoleWord.{RoleWord}
use Rattle.fc_words.specs.declared.given.RoleWord.TheVariants.{Host as HostWord, Admin as AdminWord, Copier as CopierWord, Cleaner as CleanerWord}
use Rattle.fc_words.specs.declared.grammar.LineOption.{LineOption}
use Rattle.fc_words.specs.declared.grammar.LineOption.TheVariants.{Flag, Setting}
use Rattle.fc_words.specs.declared.grammar.Operand.{Operand}
use Rattle.fc_words.specs.declared.grammar.Verb.{Verb}
use Rattle.fc_words.specs.declared.grammar.Verb.TheVariants.{MakeVolume, RemoveVolume, WriteBlocks, ReadBlocks, ArmFault, PassTime, MakeMapping, PrepareMapping, StartMapping, StopMapping, RemoveMapping, MakeGroup, PrepareGroup, StartGroup, StopGroup, RemoveGroup, ListMappings, ListGroups, ListVolumes, ShowProgress, ListDependents, MakeCopy, ListRoom, BeginBlock, BeginActor, EndBlock}
use Rattle.fc_words.specs.declared.grammar.Setting.{Setting as SettingName}
use Rattle.fc_words.specs.Given.{nothing_given, set, raise, is_given, is_wanted, take}
use Rattle.fc_words.specs.Grammar.{verb_of, family_of, scope_has, option_of, operands_of}
use Rattle.fc_words.specs.Values.{on_read}
use Rattle.fc_words.specs.Words.{words_of}

-- goes on with what was read, or hands the fault on
abbrev pub then_read : {T U : Type 0} → Result T WordFault → (T → Result U WordFault) → Result U WordFault
then_read (Ok value) next = next value
then_read (Err fault) next = Err fault

-- goes on with what is there, or tells that it is missing
abbrev pub need : {T U : Type 0} → Option T → WordFault → (T → Result U WordFault) → Result U WordFault
need (Some value) fault next = next value
need None fault next = Err fault

-- a good line of a command
abbrev pub good : Command → Result Line WordFault
good command = Ok (OfCommand command)

-- how a mapping or group is stopped
abbrev pub stop_way : Flags → StopWay
stop_way flags = if flags.force then Force else (if flags.split then Split else Plain)

-- the role of an actor
abbrev pub role_line : List ℕ → RoleWord → Operands → ℕ → Result Line WordFault
role_line name HostWord o end = Ok (OfActor name HostRole)
role_line name AdminWord o end = Ok (OfActor name AdminRole)
role_line name CopierWord o end = need o.turns (MissingWord end) (λ turns. Ok (OfActor name (CopierRole turns)))
role_line name CleanerWord o end = need o.turns (MissingWord end) (λ turns. Ok (OfActor name (CleanerRole turns)))

-- the line of all words: operands are required before options, and options in the table's order; `end` is the
-- number of words plus 1
abbrev pub complete : Verb → ℕ → Settings → Flags → Operands → Result Line WordFault
complete MakeVolume end s f o = need s.size (MissingOption Size) (λ size. good (Mkvdisk s.name size s.unit f.thin))
complete RemoveVolume end s f o = need o.object (MissingWord end) (λ volume. good (Rmvdisk volume))
complete WriteBlocks end s f o =
    need o.object (MissingWord end) (λ volume. need o.block (MissingWord end) (λ block. need o.count (MissingWord end) (λ count. need o.byte (MissingWord end) (λ byte.
    good (Write volume block count byte)))))
complete ReadBlocks end s f o =
    need o.object (MissingWord end) (λ volume. need o.block (MissingWord end) (λ block. need o.count (MissingWord end) (λ count.
    good (Read volume block count))))
complete ArmFault end s f o =
    need o.object (MissingWord end) (λ volume. need o.grain (MissingWord end) (λ grain. need o.calls (MissingWord end) (λ calls.
    good (Armfault volume grain calls))))
complete PassTime end s f o = need s.seconds (MissingOption Seconds) (λ seconds. good (Advance seconds))
complete MakeMapping end s f o =
    need s.source (MissingOption Source) (λ source. need s.target (MissingOption Target) (λ target.
    good (Mkfcmap source target s.name s.group s.copy_rate s.clean_rate s.grain_size f.incremental f.autodelete)))
complete PrepareMapping end s f o = need o.object (MissingWord end) (λ map. good (Prestartfcmap map f.restore))
complete StartMapping end s f o = need o.object (MissingWord end) (λ map. good (Startfcmap map f.prep f.restore))
complete StopMapping end s f o = need o.object (MissingWord end) (λ map. good (Stopfcmap map (stop_way f)))
complete RemoveMapping end s f o = need o.object (MissingWord end) (λ map. good (Rmfcmap map f.force))
complete MakeGroup end s f o = good (Mkfcconsistgrp s.name)
complete PrepareGroup end s f o = need o.object (MissingWord end) (λ group. good (Prestartfcconsistgrp group f.restore))
complete StartGroup end s f o = need o.object (MissingWord end) (λ group. good (Startfcconsistgrp group f.prep f.restore))
complete StopGroup end s f o = need o.object (MissingWord end) (λ group. good (Stopfcconsistgrp group (stop_way f)))
complete RemoveGroup end s f o = need o.object (MissingWord end) (λ group. good (Rmfcconsistgrp group f.force))
complete ListMappings end s f o = good (Lsfcmap o.object s.delim)
complete ListGroups end s f o = good (Lsfcconsistgrp o.object s.delim)
complete ListVolumes end s f o = good (Lsvdisk s.delim)
complete ShowProgress end s f o = need o.object (MissingWord end) (λ map. good (Lsfcmapprogress map s.delim))
complete ListDependents end s f o = need o.object (MissingWord end) (λ map. good (Lsfcmapdependentmaps map s.delim))
complete MakeCopy end s f o =
    need s.source (MissingOption Source) (λ source. need s.preset (MissingOption Preset) (λ preset.
    good (Mkpreset source preset s.name)))
complete ListRoom end s f o = good (Lsvdiskroom s.delim)
complete BeginBlock end s f o = Ok Together
complete BeginActor end s f o =
    need o.actor (MissingWord end) (λ name. need o.role (MissingWord end) (λ role. role_line name role o end))
complete EndBlock end s f o = Ok End

-- whether a word begins with a byte
abbrev pub begins_with : ℕ → List ℕ → Bool
begins_with byte [] = false
begins_with byte (first ∷ word) = first == byte

-- an option stands alone, or waits for its value
abbrev pub mark : LineOption → Given → Given
mark (Flag flag) given = record given { flags = raise flag given.flags }
mark (Setting setting) given = record given { waiting = Some setting }

-- an option of the line, once
abbrev pub add_option : Option LineOption → ℕ → Given → Result Given WordFault
add_option None at given = Err (UnknownOption at)
add_option (Some option) at given = if is_given option given then Err (RepeatedOption at) else Ok (mark option given)

-- the next operand of the line
abbrev pub add_operand : Option Operand → ℕ → List ℕ → Given → Result Given WordFault
add_operand None at word given = Err (UnknownOption at)
add_operand (Some operand) at word given = on_read (λ operands. record given { operands = operands }) (take operand at word given.operands)

-- a word: the value that an option waits for, an option, or an operand
abbrev pub add_word : Option SettingName → Verb → ℕ → List ℕ → Given → Result Given WordFault
add_word (Some setting) verb at word given =
    on_read (λ settings. record given { waiting = None; settings = settings }) (set setting at word given.settings)
add_word None verb at word given =
    if begins_with 45 word then add_option (option_of verb word) at given else add_operand (find (is_wanted given.operands) (operands_of verb)) at word given

abbrev pub read_word : Verb → ℕ → List ℕ → Given → Result Given WordFault
read_word verb at word given = add_word given.waiting verb at word given

-- the end of the words
abbrev pub finish : Option SettingName → Verb → ℕ → Given → Result Line WordFault
finish (Some setting) verb end given = Err (MissingWord end)
finish None verb end given = complete verb end given.settings given.flags given.operands

-- the words that are left, of which the first is number `at`
abbrev pub read_words : Verb → ℕ → Given → List (List ℕ) → Result Line WordFault
read_words verb at given [] = finish given.waiting verb at given
read_words verb at given (word ∷ words) =
    then_read (read_word verb at word given) (λ more. read_words verb (at + 1) more words)

-- why a scope doesn't have a line
abbrev pub not_here : Scope → WordFault
not_here NoActor = NoActorYet
not_here _ = NotInBlock

-- a line that a first word names
abbrev pub named_line : Scope → Option Verb → ℕ → List (List ℕ) → Result Line WordFault
named_line scope None at words = Err UnknownCommand
named_line scope (Some verb) at words =
    if scope_has scope (family_of verb) then read_words verb at nothing_given words else Err (not_here scope)

-- a line behind `svctask` or `svcinfo`
abbrev pub line_behind : Scope → List (List ℕ) → Result Line WordFault
line_behind scope [] = Err UnknownCommand
line_behind scope (first ∷ words) = named_line scope (verb_of first) 3 words

-- a first word that is passed over
abbrev pub is_prefix : List ℕ → Bool
is_prefix word = bytes_eq word (codes "svctask") || bytes_eq word (codes "svcinfo")

-- a line of words: none, a comment, or what the first word names
abbrev pub line_of_words : Scope → List (List ℕ) → Result Line WordFault
line_of_words scope [] = Ok Blank
line_of_words scope (first ∷ words) =
    if begins_with 35 first then Ok Blank else (if is_prefix first then line_behind scope words else named_line scope (verb_of first) 2 words)

-- a line without its end
abbrev pub line_of : Scope → List ℕ → Result Line WordFault
line_of scope line = if nat_lt MAX_LINE_BYTES (length line) then Err LongLine else line_of_words scope (words_of line)
