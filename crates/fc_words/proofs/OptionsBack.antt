-- Each option and operand of a canonical line, read back.
use Rattle.std.proofs.Common.{◌≡◌, ℕ, ◌+◌, ◌<◌, Bool, true, false, List, [], ◌∷◌, ◌++◌, Option, Some, None, Result, Ok, IfSome, codes, decimal, refl, ◌∙◌}
use Rattle.std.specs.List.{find}
use Rattle.std.specs.Option.{ok_or}
use Rattle.std.specs.Prelude.{⊤}
use Rattle.fc_base.specs.CommandText.{byte_word, delim_word, flag_words, given_words, grain_size_word, name_word, object_words, option_words, preset_word, ref_word, unit_word, way_words}
use Rattle.fc_base.specs.declared.command.Command.{Command}
use Rattle.fc_base.specs.declared.command.Line.TheVariants.{Command as OfCommand}
use Rattle.fc_base.specs.declared.command.Preset.TheVariants.{Snapshot, Clone, Backup}
use Rattle.fc_base.specs.declared.command.StopWay.{StopWay}
use Rattle.fc_base.specs.declared.command.StopWay.TheVariants.{Plain, Force as ByForce, Split as BySplit}
use Rattle.fc_base.specs.declared.command.Unit.TheVariants.{Kb, Mb, Gb}
use Rattle.fc_base.specs.declared.fault.WordFault.{WordFault}
use Rattle.fc_base.specs.declared.fault.WordFault.TheVariants.{BadName, BadNumber}
use Rattle.fc_base.specs.declared.name.Ref.{Ref}
use Rattle.fc_base.specs.declared.size.GrainSize.TheVariants.{K64, K256}
use Rattle.fc_words.specs.declared.given.Flags.{Flags}
use Rattle.fc_words.specs.declared.given.Operands.{Operands}
use Rattle.fc_words.specs.declared.given.Settings.{Settings}
use Rattle.fc_words.specs.declared.grammar.Flag.{Flag}
use Rattle.fc_words.specs.declared.grammar.Flag.TheVariants.{Prep, Restore, Force, Split}
use Rattle.fc_words.specs.declared.grammar.LineOption.TheVariants.{Flag as OfFlag, Setting as OfSetting}
use Rattle.fc_words.specs.declared.grammar.Operand.{Operand}
use Rattle.fc_words.specs.declared.grammar.Operand.TheVariants.{Object}
use Rattle.fc_words.specs.declared.grammar.Setting.{Setting}
use Rattle.fc_words.specs.declared.grammar.Setting.TheVariants.{Delim}
use Rattle.fc_words.specs.declared.grammar.Verb.{Verb}
use Rattle.fc_words.specs.Canonical.{IsName, IsNumber, IsObject, IsDelim}
use Rattle.fc_words.specs.Given.{no_settings, no_flags, no_operands, raise, is_raised, set, has_setting, is_wanted, take}
use Rattle.fc_words.specs.Grammar.{option_of, option_spelling, operands_of}
use Rattle.fc_words.specs.Lines.{begins_with, read_words, stop_way}
use Rattle.fc_words.specs.Values.{on_read, number_in, byte_of, delim_of, unit_of, grain_size_of, preset_of, name_of, ref_at}
use Rattle.fc_words.proofs.JoinLemmas.{is_word, is_word-decimal, is_word-name, is_word-ref, is_word-byte, is_word-delim}
use Rattle.fc_words.proofs.ReadsBack.{having, Reads, Reads-end, Reads-flag, Reads-setting, Reads-operand, Reads-more, Reads-raised}
use Rattle.fc_words.proofs.ValueLemmas.{number_in-decimal, name_of-name, ref_at-word, begins_with-decimal, begins_with-ref, byte_of-word, delim_of-printable}

-- a fact of nothing
pub always : {T : Type 0} (value : Option T) → IfSome value (λ _. ⊤)
always None = tt
always (Some x) = tt

-- values whose words, where they are good, may stand in a line and read back
pub record Values {T : Type 0} (word : T → List ℕ) (read : ℕ → List ℕ → Result T WordFault) (Good : T → Type 0) : Type 0 where
  pub stands : (x : T) → Good x → is_word (word x) ≡ true
  pub back : (x : T) → Good x → (at : ℕ) → read at (word x) ≡ Ok x

-- what a word says, with the fault of one that doesn't
abbrev or_bad_name : {T : Type 0} → (List ℕ → Option T) → ℕ → List ℕ → Result T WordFault
or_bad_name of at word = ok_or (of word) (BadName at)

abbrev or_bad_number : {T : Type 0} → (List ℕ → Option T) → ℕ → List ℕ → Result T WordFault
or_bad_number of at word = ok_or (of word) (BadNumber at)

pub names : Values name_word (or_bad_name name_of) IsName
names = record { stands = is_word-name; back = λ name good at. rw (name_of-name name good) refl }

pub numbers : Values decimal (or_bad_number number_in) IsNumber
numbers = record { stands = is_word-decimal; back = λ n good at. rw (number_in-decimal n good) refl }

pub objects : Values ref_word ref_at IsObject
objects = record { stands = is_word-ref; back = λ object good at. ref_at-word at object good }

pub byte_values : Values byte_word (or_bad_number byte_of) (λ byte. byte < 256)
byte_values = record { stands = is_word-byte; back = λ byte good at. rw (byte_of-word byte good) refl }

pub delims : Values delim_word (or_bad_name delim_of) IsDelim
delims = record {
  stands = λ delim good. is_word-delim delim good.0;
  back = λ delim good at. rw (delim_of-printable delim good.0 good.1) refl;
}

-- a choice whose word may stand in a line, and says it
abbrev Says : {T : Type 0} → (T → List ℕ) → (List ℕ → Option T) → T → Type 0
Says word of x = (is_word (word x) ≡ true) × (of (word x) ≡ Some x)

choices : {T : Type 0} (word : T → List ℕ) (of : List ℕ → Option T) → ((x : T) → Says word of x) → Values word (or_bad_number of) (λ _. ⊤)
choices word of says = record { stands = λ x good. (says x).0; back = λ x good at. rw ((says x).1) refl }

pub units : Values unit_word (or_bad_number unit_of) (λ _. ⊤)
units = choices unit_word unit_of (λ unit. elim unit as (Says unit_word unit_of) [ Kb ↦ (refl, refl) | Mb ↦ (refl, refl) | Gb ↦ (refl, refl) ])

pub grain_sizes : Values grain_size_word (or_bad_number grain_size_of) (λ _. ⊤)
grain_sizes = choices grain_size_word grain_size_of (λ size. elim size as (Says grain_size_word grain_size_of) [ K64 ↦ (refl, refl) | K256 ↦ (refl, refl) ])

pub presets : Values preset_word (or_bad_number preset_of) (λ _. ⊤)
presets = choices preset_word preset_of (λ preset. elim preset as (Says preset_word preset_of) [ Snapshot ↦ (refl, refl) | Clone ↦ (refl, refl) | Backup ↦ (refl, refl) ])

-- what is read is put to use
read_well : {T U : Type 0} (put : T → U) (result : Result T WordFault) (x : T) → result ≡ Ok x → on_read put result ≡ Ok (put x)
read_well put result x is = rw is refl

-- an option with a value
pub Reads-option : {T : Type 0} {word : T → List ℕ} {read : ℕ → List ℕ → Result T WordFault} {Good : T → Type 0} → Values word read Good →
    (verb : Verb) (setting : Setting) (put : Option T → Settings) (value : T) {f : Flags} {o : Operands} {words : List (List ℕ)} {most : ℕ} {command : Command} →
    begins_with 45 (option_spelling (OfSetting setting)) ≡ true →
    is_word (option_spelling (OfSetting setting)) ≡ true →
    option_of verb (option_spelling (OfSetting setting)) ≡ Some (OfSetting setting) →
    has_setting setting (put None) ≡ false →
    ((at : ℕ) (w : List ℕ) → set setting at w (put None) ≡ on_read (λ x. put (Some x)) (read at w)) →
    Good value →
    Reads verb (put (Some value)) f o words most command →
    Reads verb (put None) f o (option_words (option_spelling (OfSetting setting)) (word value) ++ words) (most + 2) command
Reads-option {T} {word} {read} {Good} values verb setting put value {f} {o} {words} {most} {command} dash option named fresh sets good rest =
    Reads-setting verb setting (put None) (put (Some value)) f o (word value) words most command dash option named fresh (values.stands value good)
    (λ at. sets at (word value) ∙ read_well (λ x. put (Some x)) (read at (word value)) value (values.back value good at)) rest

-- the same, where the option may be left out
pub Reads-given : {T : Type 0} {word : T → List ℕ} {read : ℕ → List ℕ → Result T WordFault} {Good : T → Type 0} → Values word read Good →
    (verb : Verb) (setting : Setting) (put : Option T → Settings) (value : Option T) {f : Flags} {o : Operands} {words : List (List ℕ)} {most : ℕ} {command : Command} →
    begins_with 45 (option_spelling (OfSetting setting)) ≡ true →
    is_word (option_spelling (OfSetting setting)) ≡ true →
    option_of verb (option_spelling (OfSetting setting)) ≡ Some (OfSetting setting) →
    has_setting setting (put None) ≡ false →
    ((at : ℕ) (w : List ℕ) → set setting at w (put None) ≡ on_read (λ x. put (Some x)) (read at w)) →
    IfSome value Good →
    Reads verb (put value) f o words most command →
    Reads verb (put None) f o (given_words (option_spelling (OfSetting setting)) word value ++ words) (most + 2) command
Reads-given values verb setting put None {f} {o} {words} {most} {command} dash option named fresh sets good rest =
    Reads-more verb (put None) f o words most 2 command rest
Reads-given values verb setting put (Some x) dash option named fresh sets good rest =
    Reads-option values verb setting put x dash option named fresh sets good rest

-- an operand
pub Reads-taken : {T : Type 0} {word : T → List ℕ} {read : ℕ → List ℕ → Result T WordFault} {Good : T → Type 0} → Values word read Good →
    (verb : Verb) (operand : Operand) (put : Option T → Operands) (value : T) {s : Settings} {f : Flags} {words : List (List ℕ)} {most : ℕ} {command : Command} →
    begins_with 45 (word value) ≡ false →
    find (is_wanted (put None)) (operands_of verb) ≡ Some operand →
    ((at : ℕ) (w : List ℕ) → take operand at w (put None) ≡ on_read (λ x. put (Some x)) (read at w)) →
    Good value →
    Reads verb s f (put (Some value)) words most command →
    Reads verb s f (put None) (word value ∷ words) (most + 1) command
Reads-taken {T} {word} {read} {Good} values verb operand put value {s} {f} {words} {most} {command} no_dash wanted takes good rest =
    Reads-operand verb operand s f (put None) (put (Some value)) (word value) words most command no_dash (values.stands value good) wanted
    (λ at. takes at (word value) ∙ read_well (λ x. put (Some x)) (read at (word value)) value (values.back value good at)) rest

-- a number of the line
pub Reads-number : (verb : Verb) (operand : Operand) (put : Option ℕ → Operands) (n : ℕ) {s : Settings} {f : Flags} {words : List (List ℕ)} {most : ℕ} {command : Command} →
    find (is_wanted (put None)) (operands_of verb) ≡ Some operand →
    ((at : ℕ) (w : List ℕ) → take operand at w (put None) ≡ on_read (λ x. put (Some x)) (or_bad_number number_in at w)) →
    IsNumber n →
    Reads verb s f (put (Some n)) words most command →
    Reads verb s f (put None) (decimal n ∷ words) (most + 1) command
Reads-number verb operand put n wanted takes good rest =
    Reads-taken numbers verb operand put n (begins_with-decimal n good) wanted takes good rest

-- the object of a line
abbrev with_object : Option Ref → Operands
with_object object = record no_operands { object = object }

pub Reads-object : (verb : Verb) (object : Ref) {s : Settings} {f : Flags} {words : List (List ℕ)} {most : ℕ} {command : Command} →
    find (is_wanted no_operands) (operands_of verb) ≡ Some Object →
    IsObject object →
    Reads verb s f (with_object (Some object)) words most command →
    Reads verb s f no_operands (ref_word object ∷ words) (most + 1) command
Reads-object verb object wanted good rest =
    Reads-taken objects verb Object with_object object (begins_with-ref object good) wanted (λ at w. refl) good rest

-- the object, at the end of a line
pub Reads-last : (verb : Verb) (object : Ref) {s : Settings} {f : Flags} {command : Command} →
    find (is_wanted no_operands) (operands_of verb) ≡ Some Object →
    IsObject object →
    ((at : ℕ) → read_words verb at (having s f (with_object (Some object))) [] ≡ Ok (OfCommand command)) →
    Reads verb s f no_operands (ref_word object ∷ []) 1 command
Reads-last verb object {s} {f} {command} wanted good done =
    Reads-object verb object wanted good (Reads-end verb s f (with_object (Some object)) command done)

-- the same, where the line may name none
pub Reads-maybe : (verb : Verb) (object : Option Ref) {s : Settings} {f : Flags} {command : Command} →
    find (is_wanted no_operands) (operands_of verb) ≡ Some Object →
    IfSome object IsObject →
    ((at : ℕ) → read_words verb at (having s f (with_object object)) [] ≡ Ok (OfCommand command)) →
    Reads verb s f no_operands (object_words object) 1 command
Reads-maybe verb None {s} {f} {command} wanted good done =
    Reads-more verb s f no_operands [] 0 1 command (Reads-end verb s f no_operands command done)
Reads-maybe verb (Some object) wanted good done = Reads-last verb object wanted good done

-- the delimiter of a report
pub Reads-delim : (verb : Verb) (delim : Option ℕ) {o : Operands} {words : List (List ℕ)} {most : ℕ} {command : Command} →
    option_of verb (codes "-delim") ≡ Some (OfSetting Delim) →
    IfSome delim IsDelim →
    Reads verb (record no_settings { delim = delim }) no_flags o words most command →
    Reads verb no_settings no_flags o (given_words (codes "-delim") delim_word delim ++ words) (most + 2) command
Reads-delim verb delim named good rest =
    Reads-given delims verb Delim (λ v. record no_settings { delim = v }) delim refl refl named refl (λ at w. refl) good rest

-- a flag that may be given, and the object
pub Reads-flagged : (verb : Verb) (flag : Flag) (put : Bool → Flags) (given : Bool) (object : Ref) {command : Command} →
    begins_with 45 (option_spelling (OfFlag flag)) ≡ true →
    is_word (option_spelling (OfFlag flag)) ≡ true →
    option_of verb (option_spelling (OfFlag flag)) ≡ Some (OfFlag flag) →
    is_raised flag (put false) ≡ false →
    raise flag (put false) ≡ put true →
    find (is_wanted no_operands) (operands_of verb) ≡ Some Object →
    IsObject object →
    ((at : ℕ) → read_words verb at (having no_settings (put given) (with_object (Some object))) [] ≡ Ok (OfCommand command)) →
    Reads verb no_settings (put false) no_operands (flag_words (option_spelling (OfFlag flag)) given ++ ref_word object ∷ []) 2 command
Reads-flagged verb flag put given object dash option named fresh raises wanted good done =
    Reads-raised verb flag put given dash option named fresh raises (Reads-last verb object wanted good done)

-- the flags of a start, and the object
pub Reads-start : (verb : Verb) (prep restore : Bool) (object : Ref) {command : Command} →
    option_of verb (codes "-prep") ≡ Some (OfFlag Prep) →
    option_of verb (codes "-restore") ≡ Some (OfFlag Restore) →
    find (is_wanted no_operands) (operands_of verb) ≡ Some Object →
    IsObject object →
    ((at : ℕ) → read_words verb at (having no_settings (record no_flags { prep = prep; restore = restore }) (with_object (Some object))) [] ≡ Ok (OfCommand command)) →
    Reads verb no_settings no_flags no_operands (flag_words (codes "-prep") prep ++ (flag_words (codes "-restore") restore ++ ref_word object ∷ [])) 3 command
Reads-start verb prep restore object prepares restores wanted good done =
    Reads-raised verb Prep (λ v. record no_flags { prep = v }) prep refl refl prepares refl refl
    (Reads-flagged verb Restore (λ v. record no_flags { prep = prep; restore = v }) restore object refl refl restores refl refl wanted good done)

-- the flags of a stop
abbrev pub way_flags : StopWay → Flags
way_flags Plain = no_flags
way_flags ByForce = record no_flags { force = true }
way_flags BySplit = record no_flags { split = true }

pub stop_way-flags : (way : StopWay) → stop_way (way_flags way) ≡ way
stop_way-flags Plain = refl
stop_way-flags ByForce = refl
stop_way-flags BySplit = refl

-- one of them or none, and the object
pub Reads-stop : (verb : Verb) (way : StopWay) (object : Ref) {command : Command} →
    option_of verb (codes "-force") ≡ Some (OfFlag Force) →
    option_of verb (codes "-split") ≡ Some (OfFlag Split) →
    find (is_wanted no_operands) (operands_of verb) ≡ Some Object →
    IsObject object →
    ((at : ℕ) → read_words verb at (having no_settings (way_flags way) (with_object (Some object))) [] ≡ Ok (OfCommand command)) →
    Reads verb no_settings no_flags no_operands (way_words way ++ ref_word object ∷ []) 2 command
Reads-stop verb Plain object {command} forces splits wanted good done =
    Reads-more verb no_settings no_flags no_operands (ref_word object ∷ []) 1 1 command (Reads-last verb object wanted good done)
Reads-stop verb ByForce object {command} forces splits wanted good done =
    Reads-flag verb Force no_settings no_flags no_operands (ref_word object ∷ []) 1 command refl refl forces refl (Reads-last verb object wanted good done)
Reads-stop verb BySplit object {command} forces splits wanted good done =
    Reads-flag verb Split no_settings no_flags no_operands (ref_word object ∷ []) 1 command refl refl splits refl (Reads-last verb object wanted good done)
