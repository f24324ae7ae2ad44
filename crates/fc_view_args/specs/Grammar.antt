-- The grammar of the viewer's words: at most one each of `--at N` and `--svg`, in any order.
--
-- The value of `--at` is the next word, or follows a `=` in the option's own word; it is a word of 1 to 20 decimal digits, of a
-- number from 0 to 2^64 - 1.
use Rattle.std.specs.Prelude.{◌==◌, Bool, true, false, if◌then◌else◌, List, [], ◌∷◌, Option, Some, None, is_some, codes, option_map, option_and_then}
use Rattle.std.specs.List.{before_first}
use Rattle.std.specs.Str.{bytes_eq}
use Rattle.fc_args.specs.Grammar.{Word, after_hyphens, begins_with_hyphen, drill_number, joined_value, read_if_given}
use Rattle.fc_view_args.specs.declared.wanted.Wanted.{Wanted}

-- ---- the word of an option

-- `--svg`; `--at`, whose value is the next word; `--at` and its value; or no option of the viewer
pub data OptionWord : Type 0 where
  Flag : OptionWord
  Apart : OptionWord
  Joined : Word → OptionWord
  Unknown : OptionWord

abbrev pub valued : Option Word → OptionWord
valued None = Apart
valued (Some value) = Joined value

abbrev pub flag : Option Word → OptionWord
flag None = Flag
flag (Some value) = Unknown

-- by the name of the option, and the value that is joined to it
abbrev pub option_named : Word → Option Word → OptionWord
option_named name value =
    if bytes_eq (codes "at") name then valued value else (if bytes_eq (codes "svg") name then flag value else Unknown)

-- by what follows two hyphens; 61 is `=`
abbrev pub option_by : Option Word → OptionWord
option_by None = Unknown
option_by (Some text) = option_named (before_first (λ byte. byte == 61) text) (joined_value text)

abbrev pub option_of_word : Word → OptionWord
option_of_word word = option_by (after_hyphens word)

-- ---- the words

-- what was given so far
pub record Given : Type 0 where
  pub at : Option Word
  pub svg : Bool

abbrev pub no_options : Given
no_options = record { at = None; svg = false }

-- an option is given at most once
abbrev pub give : Word → Given → Option Given
give value given = if is_some given.at then None else Some (record given { at = Some value })

abbrev pub give_svg : Given → Option Given
give_svg given = if given.svg then None else Some (record given { svg = true })

-- a word that begins with a hyphen is no value
abbrev pub give_next : Word → Given → Option Given
give_next value given = if begins_with_hyphen value then None else give value given

-- what is given after a word of an option, and whether `--at` waits for the next word
abbrev pub given_by : OptionWord → Given → Option (Given × Bool)
given_by Flag given = option_map (λ now. (now, false)) (give_svg given)
given_by Apart given = Some (given, true)
given_by (Joined value) given = option_map (λ now. (now, false)) (give value given)
given_by Unknown given = None

-- what all the words give, after what was given so far; where `--at` waits for its value, that is the first of them
abbrev pub given_after : Given → Bool → List Word → Option Given
given_after given false [] = Some given
given_after given true [] = None
given_after given false (word ∷ words) = option_and_then (λ next. given_after next.0 next.1 words) (given_by (option_of_word word) given)
given_after given true (word ∷ words) = option_and_then (λ now. given_after now false words) (give_next word given)

-- the number is read as that of a drill is
abbrev pub wanted_of_words : Given → Option Wanted
wanted_of_words given = option_map (λ at. record { at = at; svg = given.svg }) (read_if_given drill_number given.at)

-- what the words ask for, where they are in the grammar
abbrev pub wanted_by : List Word → Option Wanted
wanted_by words = option_and_then wanted_of_words (given_after no_options false words)
