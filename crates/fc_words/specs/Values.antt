-- What a word says as a value: a number, an object, a choice, a byte. Each is told with the word's own number
-- where it isn't one.
use Rattle.std.specs.Prelude.{ℕ, ◌+◌, ◌*◌, ◌^◌, Bool, false, ◌&&◌, if◌then◌else◌, List, [], ◌∷◌, Option, Some, None, Result, Ok, Err, nat_lt, nat_le, codes}
use Rattle.std.specs.Char.{digit_value, is_digit}
use Rattle.std.specs.List.{list_all}
use Rattle.std.specs.Option.{ok_or, option_map, option_and_then}
use Rattle.std.specs.Str.{bytes_eq}
use Rattle.std.specs.Str.Parse.{digits_value}
use Rattle.fc_base.specs.Names.{is_name}
use Rattle.fc_base.specs.declared.command.Preset.{Preset}
use Rattle.fc_base.specs.declared.command.Preset.TheVariants.{Snapshot, Clone, Backup}
use Rattle.fc_base.specs.declared.command.Unit.{Unit as SizeUnit}
use Rattle.fc_base.specs.declared.command.Unit.TheVariants.{Kb, Mb, Gb}
use Rattle.fc_base.specs.declared.fault.WordFault.{WordFault}
use Rattle.fc_base.specs.declared.fault.WordFault.TheVariants.{BadNumber, BadName}
use Rattle.fc_base.specs.declared.name.Ref.{Ref}
use Rattle.fc_base.specs.declared.name.Ref.TheVariants.{Id, Name}
use Rattle.fc_base.specs.declared.size.GrainSize.{GrainSize}
use Rattle.fc_base.specs.declared.size.GrainSize.TheVariants.{K64, K256}
use Rattle.fc_words.specs.declared.given.RoleWord.{RoleWord}
use Rattle.fc_words.specs.declared.given.RoleWord.TheVariants.{Host, Admin, Copier, Cleaner}

-- what is read, put to use
abbrev pub on_read : {T U : Type 0} → (T → U) → Result T WordFault → Result U WordFault
on_read f (Ok value) = Ok (f value)
on_read f (Err fault) = Err fault

-- one decimal digit or more, and nothing else
abbrev pub is_numeral : List ℕ → Bool
is_numeral [] = false
is_numeral (byte ∷ word) = list_all (λ b. is_digit b 10) (byte ∷ word)

-- decimal digits, below 2^32
abbrev pub number_in : List ℕ → Option ℕ
number_in word = if is_numeral word && nat_lt (digits_value 10 word) (2 ^ 32) then Some (digits_value 10 word) else None

-- the value of a hexadecimal digit of either case
abbrev pub hex_of : ℕ → Option ℕ
hex_of byte = if is_digit byte 16 then Some (digit_value byte) else None

-- two hexadecimal digits of either case
abbrev pub byte_of : List ℕ → Option ℕ
byte_of (high ∷ low ∷ []) =
    option_and_then (λ h. option_map (λ l. 16 * h + l) (hex_of low)) (hex_of high)
byte_of _ = None

-- one printable byte other than the space
abbrev pub delim_of : List ℕ → Option ℕ
delim_of (byte ∷ []) = if nat_le 33 byte && nat_le byte 126 then Some byte else None
delim_of _ = None

-- 1 to 10,000
abbrev pub turns_of : List ℕ → Option ℕ
turns_of word =
    if is_numeral word && (nat_le 1 (digits_value 10 word) && nat_le (digits_value 10 word) 10000) then Some (digits_value 10 word) else None

-- the first of the choices that is spelled so
abbrev pub spelled : {T : Type 0} → List ℕ → List (List ℕ × T) → Option T
spelled word [] = None
spelled word (choice ∷ choices) = if bytes_eq word choice.0 then Some choice.1 else spelled word choices

-- `kb`, `mb` or `gb`
abbrev pub unit_of : List ℕ → Option SizeUnit
unit_of word = spelled word ((codes "kb", Kb) ∷ (codes "mb", Mb) ∷ (codes "gb", Gb) ∷ [])

-- `64` or `256`
abbrev pub grain_size_of : List ℕ → Option GrainSize
grain_size_of word = spelled word ((codes "64", K64) ∷ (codes "256", K256) ∷ [])

-- `snapshot`, `clone` or `backup`
abbrev pub preset_of : List ℕ → Option Preset
preset_of word = spelled word ((codes "snapshot", Snapshot) ∷ (codes "clone", Clone) ∷ (codes "backup", Backup) ∷ [])

-- `host`, `admin`, `copier` or `cleaner`
abbrev pub role_of : List ℕ → Option RoleWord
role_of word = spelled word ((codes "host", Host) ∷ (codes "admin", Admin) ∷ (codes "copier", Copier) ∷ (codes "cleaner", Cleaner) ∷ [])

-- the word, where it is a name
abbrev pub name_of : List ℕ → Option (List ℕ)
name_of word = if is_name word then Some word else None

-- a word of digits is an id, and another a name
abbrev pub ref_at : ℕ → List ℕ → Result Ref WordFault
ref_at number word =
    if is_numeral word then on_read Id (ok_or (number_in word) (BadNumber number)) else on_read Name (ok_or (name_of word) (BadName number))
