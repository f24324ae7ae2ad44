-- The grammar of the program's words.
--
--     run      with at most one each of `--grain 64` or `--grain 256`, `--trace` and `--cache N`, in any order;
--              `--trace` and `--cache` not both; N from 1 to 1,024
--     drill N  N from 0 to 2^64 - 1
--     check
--     stop K   K from 1 to 2^32 - 1
--
-- The value of an option is the next word, or follows a `=` in the option's own word. A number is a word of 1 to 20 decimal
-- digits. What isn't built yet, by the table of the code, isn't in the grammar yet.
use Rattle.std.specs.Prelude.{ℕ, ◌==◌, ◌^◌, Bool, true, false, not, ◌&&◌, ◌||◌, if◌then◌else◌, nat_le, nat_lt, List, [], ◌∷◌, length, Option, Some, None, is_some, codes, option_map, option_and_then, unwrap_or}
use Rattle.std.specs.List.{list_any, before_first, after_first}
use Rattle.std.specs.Str.{bytes_eq}
use Rattle.std.specs.Str.Parse.{digits_value}
use Rattle.fc_base.specs.declared.size.GrainSize.TheVariants.{K256}
use Rattle.fc_words.specs.Values.{is_numeral, grain_size_of}
use Rattle.fc_args.specs.declared.asked.Asked.{Asked}
use Rattle.fc_args.specs.declared.asked.Asked.TheVariants.{Run, Drill, Check, Stop}
use Rattle.fc_args.specs.declared.asked.RunOptions.{RunOptions}
use Rattle.fc_args.specs.declared.table.TheConstants.{TRACE_IS_BUILT, CACHE_IS_BUILT, CHECK_IS_BUILT, STOP_IS_BUILT}

abbrev pub Word : Type 0
Word = List ℕ

-- ---- numbers

-- 1 to 20 decimal digits, of a number from `least` to below `limit`
abbrev pub number_within : ℕ → ℕ → Word → Option ℕ
number_within least limit word =
    if nat_le (length word) 20 && (is_numeral word && (nat_le least (digits_value 10 word) && nat_lt (digits_value 10 word) limit))
    then Some (digits_value 10 word) else None

abbrev pub drill_number : Word → Option ℕ
drill_number = number_within 0 (2 ^ 64)

abbrev pub cache_parts : Word → Option ℕ
cache_parts = number_within 1 1025

abbrev pub stop_call : Word → Option ℕ
stop_call = number_within 1 (2 ^ 32)

-- ---- the words of an option

-- an option that has a value
pub data Valued : Type 0 where
  Grain : Valued
  Cache : Valued

-- a word of an option: `--trace`; an option whose value is the next word; an option and its value; or no option of a run
pub data OptionWord : Type 0 where
  Flag : OptionWord
  Apart : Valued → OptionWord
  Joined : Valued → Word → OptionWord
  Unknown : OptionWord

abbrev pub valued : Valued → Option Word → OptionWord
valued option None = Apart option
valued option (Some value) = Joined option value

abbrev pub flag : Option Word → OptionWord
flag None = Flag
flag (Some value) = Unknown

-- by the name of the option, and the value that is joined to it
abbrev pub option_named : Word → Option Word → OptionWord
option_named name value =
    if bytes_eq (codes "grain") name then valued Grain value
    else (if bytes_eq (codes "trace") name then flag value
    else (if bytes_eq (codes "cache") name then valued Cache value else Unknown))

-- 61 is `=`
abbrev pub joined_value : Word → Option Word
joined_value text = if list_any (λ byte. byte == 61) text then Some (after_first (λ byte. byte == 61) text) else None

-- what follows two hyphens, which are 45
abbrev pub after_hyphens : Word → Option Word
after_hyphens (first ∷ second ∷ rest) = if first == 45 && second == 45 then Some rest else None
after_hyphens _ = None

abbrev pub option_by : Option Word → OptionWord
option_by None = Unknown
option_by (Some text) = option_named (before_first (λ byte. byte == 61) text) (joined_value text)

abbrev pub option_of_word : Word → OptionWord
option_of_word word = option_by (after_hyphens word)

abbrev pub begins_with_hyphen : Word → Bool
begins_with_hyphen [] = false
begins_with_hyphen (first ∷ rest) = first == 45

-- ---- the options of a run

-- what was given so far
pub record Given : Type 0 where
  pub grain : Option Word
  pub trace : Bool
  pub cache : Option Word

abbrev pub no_options : Given
no_options = record { grain = None; trace = false; cache = None }

-- an option is given at most once
abbrev pub give : Valued → Word → Given → Option Given
give Grain value given = if is_some given.grain then None else Some (record given { grain = Some value })
give Cache value given = if is_some given.cache then None else Some (record given { cache = Some value })

abbrev pub give_trace : Given → Option Given
give_trace given = if given.trace then None else Some (record given { trace = true })

-- a word that begins with a hyphen is no value
abbrev pub give_next : Valued → Word → Given → Option Given
give_next option value given = if begins_with_hyphen value then None else give option value given

-- what is given after a word of an option, and the option whose value is the next word
abbrev pub given_by : OptionWord → Given → Option (Given × Option Valued)
given_by Flag given = option_map (λ now. (now, None)) (give_trace given)
given_by (Apart option) given = Some (given, Some option)
given_by (Joined option value) given = option_map (λ now. (now, None)) (give option value given)
given_by Unknown given = None

-- what all the words give, after what was given so far; where an option waits for its value, that is the first of them
abbrev pub given_after : Given → Option Valued → List Word → Option Given
given_after given None [] = Some given
given_after given (Some option) [] = None
given_after given None (word ∷ words) = option_and_then (λ next. given_after next.0 next.1 words) (given_by (option_of_word word) given)
given_after given (Some option) (word ∷ words) = option_and_then (λ now. given_after now None words) (give_next option word given)

-- an option that wasn't given, or its value as it is read
abbrev pub read_if_given : {A : Type 0} → (Word → Option A) → Option Word → Option (Option A)
read_if_given read None = Some None
read_if_given read (Some word) = option_map Some (read word)

-- the values are read; the grain is of 256 KiB unless told otherwise, and `--trace` and `--cache` aren't given both
abbrev pub options_of_words : Given → Option RunOptions
options_of_words given =
    option_and_then (λ grain. option_and_then (λ cache.
    if given.trace && is_some cache then None
    else Some (record { grain = unwrap_or grain K256; trace = given.trace; cache = cache }))
    (read_if_given cache_parts given.cache)) (read_if_given grain_size_of given.grain)

-- ---- the words

abbrev pub run_by : List Word → Option RunOptions
run_by words = option_and_then options_of_words (given_after no_options None words)

-- one word and no other
abbrev pub alone : List Word → Option Word
alone (word ∷ []) = Some word
alone _ = None

abbrev pub check_by : List Word → Option Asked
check_by [] = Some Check
check_by _ = None

-- what the words ask for, by the first of them
abbrev pub command_by : Word → List Word → Option Asked
command_by name words =
    if bytes_eq (codes "run") name then option_map Run (run_by words)
    else (if bytes_eq (codes "drill") name then option_map Drill (option_and_then drill_number (alone words))
    else (if bytes_eq (codes "check") name then check_by words
    else (if bytes_eq (codes "stop") name then option_map Stop (option_and_then stop_call (alone words)) else None)))

abbrev pub in_full : List Word → Option Asked
in_full [] = None
in_full (name ∷ words) = command_by name words

-- whether what is asked for is built
abbrev pub is_offered : Asked → Bool
is_offered (Run options) = (TRACE_IS_BUILT || not options.trace) && (CACHE_IS_BUILT || not (is_some options.cache))
is_offered (Drill number) = true
is_offered Check = CHECK_IS_BUILT
is_offered (Stop call) = STOP_IS_BUILT

abbrev pub if_built : Asked → Option Asked
if_built asked = if is_offered asked then Some asked else None

-- what the words ask for, where they are in the grammar
abbrev pub asked_by : List Word → Option Asked
asked_by words = option_and_then if_built (in_full words)
