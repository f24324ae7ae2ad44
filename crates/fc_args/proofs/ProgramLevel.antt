-- All words of the program, as `clap` walks over them.
use Rattle.std.proofs.Common.{◌≡◌, ◌∙◌, ℕ, Bool, true, false, ◌^◌, true≢false, List, [], ◌∷◌, Option, Some, None, is_some, fold, option_map, refl, sym, ap, subst, codes, option_and_then, ◌⊎◌, inl, inr}
use Rattle.std.specs.List.{list_any}
use Rattle.std.specs.Str.{bytes_eq}
use Rattle.clap.specs.Faults.{check_fault, defaults_fault, entered_fault, fault_of, level_fault, settle_fault, turn_fault, walk_fault}
use Rattle.clap.specs.Kinds.{IsAmong, Kinds, or_else}
use Rattle.clap.specs.Simple.{App, HasMatchesOf, Shape, built, entered, is_simple, names_of, subcommand_of, subcommand_rows_of}
use Rattle.clap.specs.declared.parser.matches.ArgMatches.{ArgMatches}
use Rattle.clap.specs.Walk.{Names, Row, Text, Walk, finished, idle, nothing_held, rows_after, settled, subcommand_met, walk, walk_from, walked}
use Rattle.clap.specs.declared.error.kind.ErrorKind.{ErrorKind}
use Rattle.clap.specs.declared.error.kind.ErrorKind.TheVariants as kind
use Rattle.clap.proofs.FaultLemmas.{stopped_fault}
use Rattle.clap.proofs.WalkLemmas.{walk_stopped}
use Rattle.fc_args.specs.Grammar.{alone, check_by, command_by, drill_number, in_full, options_of_words, run_by, stop_call}
use Rattle.fc_args.specs.Matches.{found_in, number_in}
use Rattle.fc_args.specs.Program.{flashcopy, is_stray}
use Rattle.fc_args.specs.declared.asked.Asked.{Asked}
use Rattle.fc_args.specs.declared.asked.Asked.TheVariants.{Run, Drill, Stop}
use Rattle.fc_args.proofs.HyphenLemmas.{IsOption, IsPlain, OptionForm, classify, or_parts}
use Rattle.fc_args.proofs.NumberLevel.{check_level, number_level, number_taken}
use Rattle.fc_args.proofs.RunLevel.{level, read_given}
use Rattle.fc_args.proofs.RunSteps.{run_taken}
use Rattle.fc_args.proofs.StrayLemmas.{hyphen_number}
use Rattle.fc_args.proofs.Verdicts.{ended, fails}

abbrev program : App
program = built flashcopy

abbrev top : Shape
top = program.top

abbrev names : Names
names = names_of program

abbrev start : Walk
start = walk_from nothing_held

-- what a parse comes to
abbrev pub outcome : Kinds → Option (Text × List Row) → Option Asked
outcome [] found = found_in found
outcome (k ∷ ks) found = None

-- what it fails by, by the walk and its faults
abbrev total : Walk → Kinds → Kinds
total w ks = or_else ks (or_else (entered_fault program w.stopped) (or_else (settle_fault [] false w.held)
    (or_else (defaults_fault (settled [] w.held).rows []) (check_fault top (finished [] w.held) (is_some (entered program w.stopped))))))

-- ---- a word that names a command

abbrev entered_walk : Text → List Text → Walk
entered_walk name words = record { held = nothing_held; waiting = idle; position = 1; is_trailing = false; stopped = Some (name, words) }

named_walk : (name word : Text) → subcommand_met names idle word ≡ Some name → walked [] names start word ≡ entered_walk name []
unfolding walked
named_walk name word met = rw met refl

walk_is : (name word : Text) (words : List Text) → subcommand_met names idle word ≡ Some name → walk [] names nothing_held (word ∷ words) ≡ entered_walk name words
walk_is name word words met = ap (λ w. fold (walked [] names) w words) (named_walk name word met) ∙ sym (walk_stopped [] names (entered_walk name []) name [] words)

named_turn : (name word : Text) → bytes_eq name (codes "help") ≡ false → subcommand_met names idle word ≡ Some name → turn_fault top names start word ≡ []
named_turn name word other met = rw (met, other) refl

faults_are : (name word : Text) (words : List Text) → bytes_eq name (codes "help") ≡ false → subcommand_met names idle word ≡ Some name → walk_fault top names start (word ∷ words) ≡ []
unfolding walk_fault
faults_are name word words other met =
    ap (λ ks. or_else ks (walk_fault top names (walked [] names start word) words)) (named_turn name word other met)
    ∙ ap (λ w. walk_fault top names w words) (named_walk name word met) ∙ stopped_fault top names (entered_walk name []) (name, []) words

entered_total : (name word : Text) (words : List Text) → bytes_eq name (codes "help") ≡ false → subcommand_met names idle word ≡ Some name
    → outcome (fault_of flashcopy (word ∷ words)) (subcommand_of flashcopy (word ∷ words)) ≡ outcome (total (entered_walk name words) []) (entered program (Some (name, words)))
entered_total name word words other met =
    ap (λ ks. outcome (total (walk [] names nothing_held (word ∷ words)) ks) (entered program (walk [] names nothing_held (word ∷ words)).stopped)) (faults_are name word words other met)
    ∙ ap (λ w. outcome (total w []) (entered program w.stopped)) (walk_is name word words met)

-- ---- the commands

run_outcome : (ks : Kinds) (rows : List Row) → outcome (or_else ks []) (Some (codes "run", rows)) ≡ option_map Run (option_and_then options_of_words (ended read_given ks rows))
run_outcome [] rows = refl
run_outcome (k ∷ ks) rows = refl

run_goes : (words : List Text) → list_any is_stray words ≡ false → outcome (total (entered_walk (codes "run") words) []) (entered program (Some (codes "run", words))) ≡ option_map Run (run_by words)
unfolding defaults_fault
run_goes words clean = run_outcome (level_fault level [] nothing_held words false []) (rows_after level.rules [] words) ∙ ap (λ given. option_map Run (option_and_then options_of_words given)) (run_taken words clean)

-- a command of one number: what is made of the number, and how it is read
module _ (name : Text) (made : ℕ → Asked) (read : Text → Option ℕ)
    (whole : (rows : List Row) → outcome [] (Some (name, rows)) ≡ option_map made (option_and_then read (ended number_in [] rows)))
    (hyphen : (word text : Text) (value : Option Text) → IsOption word text value → read word ≡ None) where
  number_outcome : (ks : Kinds) (rows : List Row) → outcome (or_else ks []) (Some (name, rows)) ≡ option_map made (option_and_then read (ended number_in ks rows))
  number_outcome [] rows = whole rows
  number_outcome (k ∷ ks) rows = refl

  number_goes : (words : List Text) → list_any is_stray words ≡ false
      → outcome (or_else (level_fault (number_level name) [] nothing_held words false []) []) (Some (name, rows_after (number_level name).rules [] words)) ≡ option_map made (option_and_then read (alone words))
  unfolding defaults_fault
  number_goes words clean =
      number_outcome (level_fault (number_level name) [] nothing_held words false []) (rows_after (number_level name).rules [] words)
      ∙ ap (option_map made) (number_taken name read hyphen words clean)

drill_goes : (words : List Text) → list_any is_stray words ≡ false
    → outcome (total (entered_walk (codes "drill") words) []) (entered program (Some (codes "drill", words))) ≡ option_map Drill (option_and_then drill_number (alone words))
unfolding defaults_fault
drill_goes words clean = number_goes (codes "drill") Drill drill_number (λ rows. refl) (λ word text value is. hyphen_number 0 (2 ^ 64) word is.hyphen) words clean

stop_goes : (words : List Text) → list_any is_stray words ≡ false
    → outcome (total (entered_walk (codes "stop") words) []) (entered program (Some (codes "stop", words))) ≡ option_map Stop (option_and_then stop_call (alone words))
unfolding defaults_fault
stop_goes words clean = number_goes (codes "stop") Stop stop_call (λ rows. refl) (λ word text value is. hyphen_number 1 (2 ^ 32) word is.hyphen) words clean

check_turn : (word : Text) → IsPlain word ⊎ OptionForm word → turn_fault check_level [] start word ≡ kind.UnknownArgument ∷ []
check_turn word (inl is) = rw (is.no_end, is.long, is.short) refl
check_turn word (inr is) = rw (is.2.no_end, is.2.long) refl

check_goes : (words : List Text) → list_any is_stray words ≡ false → outcome (total (entered_walk (codes "check") words) []) (entered program (Some (codes "check", words))) ≡ check_by words
unfolding walk_fault defaults_fault
check_goes [] clean = refl
check_goes (word ∷ words) clean = rw (check_turn word (classify word (or_parts (is_stray word) (list_any is_stray words) clean).0)) refl

-- ---- a word that names none

unknown_turn : (word : Text) → IsPlain word ⊎ OptionForm word → subcommand_met names idle word ≡ None → fails (turn_fault top names start word) ≡ true
unknown_turn word (inl is) met = rw (met, is.no_end, is.long, is.short) refl
unknown_turn word (inr is) met = rw (met, is.2.no_end, is.2.long) refl

first_fails : (ks more : Kinds) (w : Walk) (found : Option (Text × List Row)) → fails ks ≡ true → outcome (total w (or_else ks more)) found ≡ None
first_fails [] more w found e = absurd (true≢false (sym e))
first_fails (k ∷ ks) more w found e = refl

unknown_goes : (word : Text) (words : List Text) → IsPlain word ⊎ OptionForm word → subcommand_met names idle word ≡ None
    → outcome (fault_of flashcopy (word ∷ words)) (subcommand_of flashcopy (word ∷ words)) ≡ None
unfolding walk_fault
unknown_goes word words form met =
    first_fails (turn_fault top names start word) (walk_fault top names (walked [] names start word) words) (walk [] names nothing_held (word ∷ words)) (subcommand_of flashcopy (word ∷ words))
    (unknown_turn word form met)

-- ---- all words

first_goes : (word : Text) (words : List Text) → is_stray word ≡ false → list_any is_stray words ≡ false → (r d c s : Bool)
    → bytes_eq (codes "run") word ≡ r → bytes_eq (codes "drill") word ≡ d → bytes_eq (codes "check") word ≡ c → bytes_eq (codes "stop") word ≡ s
    → outcome (fault_of flashcopy (word ∷ words)) (subcommand_of flashcopy (word ∷ words)) ≡ command_by word words
first_goes word words clean rest true d c s er ed ec es =
    entered_total (codes "run") word words refl (rw er refl) ∙ run_goes words rest ∙ rw er refl
first_goes word words clean rest false true c s er ed ec es =
    entered_total (codes "drill") word words refl (rw (er, ed) refl) ∙ drill_goes words rest ∙ rw (er, ed) refl
first_goes word words clean rest false false true s er ed ec es =
    entered_total (codes "check") word words refl (rw (er, ed, ec) refl) ∙ check_goes words rest ∙ rw (er, ed, ec) refl
first_goes word words clean rest false false false true er ed ec es =
    entered_total (codes "stop") word words refl (rw (er, ed, ec, es) refl) ∙ stop_goes words rest ∙ rw (er, ed, ec, es) refl
first_goes word words clean rest false false false false er ed ec es =
    unknown_goes word words (classify word clean) (rw (er, ed, ec, es) refl) ∙ rw (er, ed, ec, es) refl

-- words of which none is stray: the parse comes to what they ask for
pub program_taken : (words : List Text) → list_any is_stray words ≡ false → outcome (fault_of flashcopy words) (subcommand_of flashcopy words) ≡ in_full words
unfolding walk_fault walked defaults_fault
program_taken [] clean = refl
program_taken (word ∷ words) clean =
    let both = or_parts (is_stray word) (list_any is_stray words) clean in
    first_goes word words both.0 both.1 (bytes_eq (codes "run") word) (bytes_eq (codes "drill") word) (bytes_eq (codes "check") word) (bytes_eq (codes "stop") word) refl refl refl refl

-- a parse that is done gives what the words ask for
pub parse_done : (words : List Text) → list_any is_stray words ≡ false → (app : App) → app ≡ flashcopy → (m : ArgMatches) → HasMatchesOf app words m → fault_of app words ≡ []
    → found_in (subcommand_rows_of m) ≡ in_full words
parse_done words clean app is m has none =
    let passes : fault_of flashcopy words ≡ [] = sym (ap (λ a. fault_of a words) is) ∙ none in
    ap found_in ((has (ap is_simple is)).1 ∙ ap (λ a. subcommand_of a words) is)
    ∙ sym (ap (λ ks. outcome ks (subcommand_of flashcopy words)) passes) ∙ program_taken words clean

among_fails : (k : ErrorKind) (ks : Kinds) (found : Option (Text × List Row)) → IsAmong k ks → outcome ks found ≡ None
among_fails k [] found among = absurd among
among_fails k (x ∷ ks) found among = refl

-- a parse that is refused for the words shows that they ask for nothing
pub parse_refused : (words : List Text) → list_any is_stray words ≡ false → (app : App) → app ≡ flashcopy → (k : ErrorKind) → IsAmong k (fault_of app words) → None ≡ in_full words
parse_refused words clean app is k among =
    let P : App → Type 0 = λ a. IsAmong k (fault_of a words) in
    sym (among_fails k (fault_of flashcopy words) (subcommand_of flashcopy words) (subst P is among)) ∙ program_taken words clean
