-- No line in a block is a command that makes, removes or arms a volume, or asks for one to be made.
use Rattle.std.proofs.Common.{◌≡◌, ◌≢◌, ℕ, ◌+◌, Bool, true, false, if◌then◌else◌, List, [], ◌∷◌, length, Option, Some, None, Result, Ok, Err, refl, sym, ◌∙◌, true≢false, nat_lt}
use Rattle.fc_base.specs.declared.command.Command.{Command}
use Rattle.fc_base.specs.declared.command.Command.TheVariants.{Armfault, Mkpreset, Mkvdisk, Rmvdisk}
use Rattle.fc_base.specs.declared.command.Line.{Line}
use Rattle.fc_base.specs.declared.command.Line.TheVariants.{Blank, Command as CommandLine}
use Rattle.fc_base.specs.declared.command.Scope.{Scope}
use Rattle.fc_base.specs.declared.command.Scope.TheVariants.{Free, Host, Admin, Worker, NoActor}
use Rattle.fc_base.specs.declared.fault.WordFault.{WordFault}
use Rattle.fc_base.specs.declared.fault.WordFault.TheVariants.{LongLine}
use Rattle.fc_base.specs.declared.limits.TheConstants.{MAX_LINE_BYTES}
use Rattle.fc_words.specs.declared.given.Flags.{Flags}
use Rattle.fc_words.specs.declared.given.Given.{Given}
use Rattle.fc_words.specs.declared.given.Operands.{Operands}
use Rattle.fc_words.specs.declared.given.RoleWord.{RoleWord}
use Rattle.fc_words.specs.declared.given.RoleWord.TheVariants.{Host as HostWord, Admin as AdminWord, Copier as CopierWord, Cleaner as CleanerWord}
use Rattle.fc_words.specs.declared.given.Settings.{Settings}
use Rattle.fc_words.specs.declared.grammar.Family.TheVariants.{Storage}
use Rattle.fc_words.specs.declared.grammar.Setting.{Setting}
use Rattle.fc_words.specs.declared.grammar.Verb.{Verb}
use Rattle.fc_words.specs.declared.grammar.Verb.TheVariants.{MakeVolume, RemoveVolume, WriteBlocks, ReadBlocks, ArmFault, PassTime, MakeMapping, PrepareMapping, StartMapping, StopMapping, RemoveMapping, MakeGroup, PrepareGroup, StartGroup, StopGroup, RemoveGroup, ListMappings, ListGroups, ListVolumes, ShowProgress, ListDependents, MakeCopy, ListRoom, BeginBlock, BeginActor, EndBlock}
use Rattle.fc_words.specs.Given.{nothing_given}
use Rattle.fc_words.specs.Grammar.{verb_of, family_of, scope_has}
use Rattle.fc_words.specs.Lines.{then_read, need, role_line, complete, begins_with, read_word, finish, read_words, not_here, named_line, line_behind, is_prefix, line_of_words, line_of}
use Rattle.fc_words.specs.Words.{words_of}
use Rattle.law_volumes.specs.Law.{is_of_volumes, asks_for_volume}

-- The commands that no block has: they make, remove or arm volumes.
abbrev pub stands_outside : Command → Bool
stands_outside (Mkvdisk name size unit thin) = true
stands_outside (Rmvdisk volume) = true
stands_outside (Armfault volume grain calls) = true
stands_outside (Mkpreset source preset name) = true
stands_outside command = false

-- A line, as it was read, is no such command.
abbrev pub LineInside : Result Line WordFault → Type 0
LineInside (Ok (CommandLine command)) = stands_outside command ≡ false
LineInside line = Unit {0}

-- It is no command that asks to make or remove a volume.
abbrev pub LineSpares : Result Line WordFault → Type 0
LineSpares (Ok (CommandLine command)) = asks_for_volume command ≡ false
LineSpares line = Unit {0}

pub command_spares : (command : Command) → stands_outside command ≡ false → asks_for_volume command ≡ false
command_spares (Mkvdisk name size unit thin) is = is
command_spares (Rmvdisk volume) is = is
command_spares (Mkpreset source preset name) is = is
command_spares command is = refl

inside_spares : (r : Result Line WordFault) → LineInside r → LineSpares r
inside_spares (Ok (CommandLine command)) is = command_spares command is
inside_spares r is = tt

-- Then it makes or removes none itself.
pub asks-none : (command : Command) → asks_for_volume command ≡ false → is_of_volumes command ≡ false
asks-none (Mkpreset source preset name) none = absurd (true≢false none)
asks-none command none = none

-- ---- in general

need_inside : {T : Type 0} (o : Option T) (fault : WordFault) (next : T → Result Line WordFault) → ((value : T) → LineInside (next value)) → LineInside (need o fault next)
need_inside (Some value) fault next each = each value
need_inside None fault next each = tt

read_inside : {T : Type 0} (r : Result T WordFault) (next : T → Result Line WordFault) → ((value : T) → LineInside (next value)) → LineInside (then_read r next)
read_inside (Ok value) next each = each value
read_inside (Err fault) next each = tt

if_inside : (b : Bool) (first second : Result Line WordFault) → LineInside first → LineInside second → LineInside (if b then first else second)
if_inside true first second one two = one
if_inside false first second one two = two

-- ---- words

role_inside : (name : List ℕ) (role : RoleWord) (o : Operands) (end : ℕ) → LineInside (role_line name role o end)
role_inside name HostWord o end = tt
role_inside name AdminWord o end = tt
role_inside name CopierWord o end = need_inside o.turns _ _ (λ turns. tt)
role_inside name CleanerWord o end = need_inside o.turns _ _ (λ turns. tt)

-- No scope in a block has lines of the family that `mkvdisk`, `rmvdisk`, `armfault` and `mkpreset` are of.
no_storage : (scope : Scope) → scope ≢ Free → scope_has scope Storage ≡ false
no_storage Free inside = absurd (inside refl)
no_storage Host inside = refl
no_storage Admin inside = refl
no_storage Worker inside = refl
no_storage NoActor inside = refl

module _ (scope : Scope) (inside : scope ≢ Free) where
  none_made : scope_has scope Storage ≡ true → ⊥
  none_made has = true≢false (sym has ∙ no_storage scope inside)

  complete_inside : (verb : Verb) (end : ℕ) (s : Settings) (f : Flags) (o : Operands) → scope_has scope (family_of verb) ≡ true → LineInside (complete verb end s f o)
  complete_inside MakeVolume end s f o has = absurd (none_made has)
  complete_inside RemoveVolume end s f o has = absurd (none_made has)
  complete_inside WriteBlocks end s f o has = need_inside o.object _ _ (λ v. need_inside o.block _ _ (λ b. need_inside o.count _ _ (λ n. need_inside o.byte _ _ (λ byte. refl))))
  complete_inside ReadBlocks end s f o has = need_inside o.object _ _ (λ v. need_inside o.block _ _ (λ b. need_inside o.count _ _ (λ n. refl)))
  complete_inside ArmFault end s f o has = absurd (none_made has)
  complete_inside PassTime end s f o has = absurd (none_made has)
  complete_inside MakeMapping end s f o has = need_inside s.source _ _ (λ source. need_inside s.target _ _ (λ target. refl))
  complete_inside PrepareMapping end s f o has = need_inside o.object _ _ (λ m. refl)
  complete_inside StartMapping end s f o has = need_inside o.object _ _ (λ m. refl)
  complete_inside StopMapping end s f o has = need_inside o.object _ _ (λ m. refl)
  complete_inside RemoveMapping end s f o has = need_inside o.object _ _ (λ m. refl)
  complete_inside MakeGroup end s f o has = refl
  complete_inside PrepareGroup end s f o has = need_inside o.object _ _ (λ group. refl)
  complete_inside StartGroup end s f o has = need_inside o.object _ _ (λ group. refl)
  complete_inside StopGroup end s f o has = need_inside o.object _ _ (λ group. refl)
  complete_inside RemoveGroup end s f o has = need_inside o.object _ _ (λ group. refl)
  complete_inside ListMappings end s f o has = refl
  complete_inside ListGroups end s f o has = refl
  complete_inside ListVolumes end s f o has = refl
  complete_inside ShowProgress end s f o has = need_inside o.object _ _ (λ m. refl)
  complete_inside ListDependents end s f o has = need_inside o.object _ _ (λ m. refl)
  complete_inside MakeCopy end s f o has = absurd (none_made has)
  complete_inside ListRoom end s f o has = refl
  complete_inside BeginBlock end s f o has = tt
  complete_inside BeginActor end s f o has = need_inside o.actor _ _ (λ name. need_inside o.role _ _ (λ role. role_inside name role o end))
  complete_inside EndBlock end s f o has = tt

  finish_inside : (waiting : Option Setting) (verb : Verb) (end : ℕ) (given : Given) → scope_has scope (family_of verb) ≡ true → LineInside (finish waiting verb end given)
  finish_inside (Some setting) verb end given has = tt
  finish_inside None verb end given has = complete_inside verb end given.settings given.flags given.operands has

  words_inside : (verb : Verb) (at : ℕ) (given : Given) (words : List (List ℕ)) → scope_has scope (family_of verb) ≡ true → LineInside (read_words verb at given words)
  words_inside verb at given [] has = finish_inside given.waiting verb at given has
  words_inside verb at given (word ∷ words) has =
      read_inside (read_word verb at word given) (λ more. read_words verb (at + 1) more words) (λ more. words_inside verb (at + 1) more words has)

  -- ---- lines

  verb_inside : (verb : Verb) (at : ℕ) (words : List (List ℕ)) (has : Bool) → scope_has scope (family_of verb) ≡ has →
      LineInside (if has then read_words verb at nothing_given words else Err (not_here scope))
  verb_inside verb at words true has = words_inside verb at nothing_given words has
  verb_inside verb at words false has = tt

  named_inside : (o : Option Verb) (at : ℕ) (words : List (List ℕ)) → LineInside (named_line scope o at words)
  named_inside None at words = tt
  named_inside (Some verb) at words = verb_inside verb at words (scope_has scope (family_of verb)) refl

  behind_inside : (words : List (List ℕ)) → LineInside (line_behind scope words)
  behind_inside [] = tt
  behind_inside (first ∷ words) = named_inside (verb_of first) 3 words

  of_words_inside : (words : List (List ℕ)) → LineInside (line_of_words scope words)
  of_words_inside [] = tt
  of_words_inside (first ∷ words) =
      if_inside (begins_with 35 first) (Ok Blank) (if is_prefix first then line_behind scope words else named_line scope (verb_of first) 2 words) tt
      (if_inside (is_prefix first) (line_behind scope words) (named_line scope (verb_of first) 2 words) (behind_inside words) (named_inside (verb_of first) 2 words))

  pub line_inside : (line : List ℕ) → LineInside (line_of scope line)
  line_inside line =
      if_inside (nat_lt MAX_LINE_BYTES (length line)) (Err LongLine) (line_of_words scope (words_of line)) tt (of_words_inside (words_of line))

  pub line_spares : (line : List ℕ) → LineSpares (line_of scope line)
  line_spares line = inside_spares (line_of scope line) (line_inside line)
