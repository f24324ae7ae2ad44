-- What the words of a line have given so far, and what one more word adds.
use Rattle.std.specs.Prelude.{ℕ, Bool, true, false, ◌&&◌, ◌||◌, List, Option, Some, None, Result, is_some, is_none}
use Rattle.std.specs.Option.{ok_or}
use Rattle.fc_base.specs.declared.fault.WordFault.{WordFault}
use Rattle.fc_base.specs.declared.fault.WordFault.TheVariants.{BadNumber, BadName}
use Rattle.fc_words.specs.declared.given.Flags.{Flags}
use Rattle.fc_words.specs.declared.given.Given.{Given}
use Rattle.fc_words.specs.declared.given.Operands.{Operands}
use Rattle.fc_words.specs.declared.given.RoleWord.{RoleWord}
use Rattle.fc_words.specs.declared.given.RoleWord.TheVariants.{Copier, Cleaner}
use Rattle.fc_words.specs.declared.given.Settings.{Settings}
use Rattle.fc_words.specs.declared.grammar.Flag.{Flag}
use Rattle.fc_words.specs.declared.grammar.Flag.TheVariants.{Thin, Incremental, Autodelete, Restore, Prep, Force, Split}
use Rattle.fc_words.specs.declared.grammar.LineOption.{LineOption}
use Rattle.fc_words.specs.declared.grammar.LineOption.TheVariants.{Flag as OfFlag, Setting as OfSetting}
use Rattle.fc_words.specs.declared.grammar.Operand.{Operand}
use Rattle.fc_words.specs.declared.grammar.Operand.TheVariants.{Object, Block, Count, Byte, Grain, Calls, Actor, Role, Turns}
use Rattle.fc_words.specs.declared.grammar.Setting.{Setting}
use Rattle.fc_words.specs.declared.grammar.Setting.TheVariants.{Name, Size, Unit as SizeUnit, Source, Target, Group, CopyRate, CleanRate, GrainSize, Seconds, Delim, Preset}
use Rattle.fc_words.specs.Values.{on_read, number_in, byte_of, delim_of, turns_of, unit_of, grain_size_of, preset_of, role_of, name_of, ref_at}

-- no option has a value
abbrev pub no_settings : Settings
no_settings = record {
  name = None;
  size = None;
  unit = None;
  source = None;
  target = None;
  group = None;
  copy_rate = None;
  clean_rate = None;
  grain_size = None;
  seconds = None;
  delim = None;
  preset = None;
}

-- no option without a value
abbrev pub no_flags : Flags
no_flags = record { thin = false; incremental = false; autodelete = false; restore = false; prep = false; force = false; split = false }

-- no operand
abbrev pub no_operands : Operands
no_operands = record {
  object = None;
  block = None;
  count = None;
  byte = None;
  grain = None;
  calls = None;
  actor = None;
  role = None;
  turns = None;
}

-- nothing yet
abbrev pub nothing_given : Given
nothing_given = record { waiting = None; settings = no_settings; flags = no_flags; operands = no_operands }

-- the settings with the value that a word gives to an option
abbrev pub set : Setting → ℕ → List ℕ → Settings → Result Settings WordFault
set Name at word s = on_read (λ name. record s { name = Some name }) (ok_or (name_of word) (BadName at))
set Size at word s = on_read (λ size. record s { size = Some size }) (ok_or (number_in word) (BadNumber at))
set SizeUnit at word s = on_read (λ unit. record s { unit = Some unit }) (ok_or (unit_of word) (BadNumber at))
set Source at word s = on_read (λ source. record s { source = Some source }) (ref_at at word)
set Target at word s = on_read (λ target. record s { target = Some target }) (ref_at at word)
set Group at word s = on_read (λ group. record s { group = Some group }) (ref_at at word)
set CopyRate at word s = on_read (λ rate. record s { copy_rate = Some rate }) (ok_or (number_in word) (BadNumber at))
set CleanRate at word s = on_read (λ rate. record s { clean_rate = Some rate }) (ok_or (number_in word) (BadNumber at))
set GrainSize at word s = on_read (λ size. record s { grain_size = Some size }) (ok_or (grain_size_of word) (BadNumber at))
set Seconds at word s = on_read (λ seconds. record s { seconds = Some seconds }) (ok_or (number_in word) (BadNumber at))
set Delim at word s = on_read (λ delim. record s { delim = Some delim }) (ok_or (delim_of word) (BadName at))
set Preset at word s = on_read (λ preset. record s { preset = Some preset }) (ok_or (preset_of word) (BadNumber at))

-- whether an option has its value
abbrev pub has_setting : Setting → Settings → Bool
has_setting Name s = is_some s.name
has_setting Size s = is_some s.size
has_setting SizeUnit s = is_some s.unit
has_setting Source s = is_some s.source
has_setting Target s = is_some s.target
has_setting Group s = is_some s.group
has_setting CopyRate s = is_some s.copy_rate
has_setting CleanRate s = is_some s.clean_rate
has_setting GrainSize s = is_some s.grain_size
has_setting Seconds s = is_some s.seconds
has_setting Delim s = is_some s.delim
has_setting Preset s = is_some s.preset

-- the flags with one more
abbrev pub raise : Flag → Flags → Flags
raise Thin f = record f { thin = true }
raise Incremental f = record f { incremental = true }
raise Autodelete f = record f { autodelete = true }
raise Restore f = record f { restore = true }
raise Prep f = record f { prep = true }
raise Force f = record f { force = true }
raise Split f = record f { split = true }

-- whether a flag was given, or the other of `-force` and `-split`
abbrev pub is_raised : Flag → Flags → Bool
is_raised Thin f = f.thin
is_raised Incremental f = f.incremental
is_raised Autodelete f = f.autodelete
is_raised Restore f = f.restore
is_raised Prep f = f.prep
is_raised Force f = f.force || f.split
is_raised Split f = f.force || f.split

-- whether an option was given already, or the other of `-force` and `-split`
abbrev pub is_given : LineOption → Given → Bool
is_given (OfSetting setting) given = has_setting setting given.settings
is_given (OfFlag flag) given = is_raised flag given.flags

-- whether a role takes turns
abbrev pub takes_turns : Option RoleWord → Bool
takes_turns (Some Copier) = true
takes_turns (Some Cleaner) = true
takes_turns _ = false

-- whether an operand isn't there yet
abbrev pub is_wanted : Operands → Operand → Bool
is_wanted o Object = is_none o.object
is_wanted o Block = is_none o.block
is_wanted o Count = is_none o.count
is_wanted o Byte = is_none o.byte
is_wanted o Grain = is_none o.grain
is_wanted o Calls = is_none o.calls
is_wanted o Actor = is_none o.actor
is_wanted o Role = is_none o.role
is_wanted o Turns = takes_turns o.role && is_none o.turns

-- the operands with one more, that a word gives
abbrev pub take : Operand → ℕ → List ℕ → Operands → Result Operands WordFault
take Object at word o = on_read (λ object. record o { object = Some object }) (ref_at at word)
take Block at word o = on_read (λ block. record o { block = Some block }) (ok_or (number_in word) (BadNumber at))
take Count at word o = on_read (λ count. record o { count = Some count }) (ok_or (number_in word) (BadNumber at))
take Byte at word o = on_read (λ byte. record o { byte = Some byte }) (ok_or (byte_of word) (BadNumber at))
take Grain at word o = on_read (λ grain. record o { grain = Some grain }) (ok_or (number_in word) (BadNumber at))
take Calls at word o = on_read (λ calls. record o { calls = Some calls }) (ok_or (number_in word) (BadNumber at))
take Actor at word o = on_read (λ actor. record o { actor = Some actor }) (ok_or (name_of word) (BadName at))
take Role at word o = on_read (λ role. record o { role = Some role }) (ok_or (role_of word) (BadNumber at))
take Turns at word o = on_read (λ turns. record o { turns = Some turns }) (ok_or (turns_of word) (BadNumber at))
