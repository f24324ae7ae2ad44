-- What a parse of all words comes to.
use Rattle.std.proofs.Common.{◌≡◌, ◌∙◌, false, List, [], ◌∷◌, Option, Some, None, is_some, refl, sym, ap, subst, option_and_then}
use Rattle.std.specs.List.{list_any}
use Rattle.clap.specs.Faults.{entered_fault, fault_of, level_fault}
use Rattle.clap.specs.Kinds.{IsAmong, Kinds}
use Rattle.clap.specs.Matches.{found_of}
use Rattle.clap.specs.Simple.{App, HasMatchesOf, built, entered, is_simple, matches_of}
use Rattle.clap.specs.declared.parser.matches.ArgMatches.{ArgMatches}
use Rattle.clap.specs.Walk.{Text, nothing_held, rows_of, walk}
use Rattle.clap.specs.declared.error.kind.ErrorKind.{ErrorKind}
use Rattle.fc_args.specs.Program.{is_stray}
use Rattle.fc_args.proofs.Verdicts.{ended}
use Rattle.fc_view_args.specs.Command.{viewer}
use Rattle.fc_view_args.specs.Grammar.{given_after, no_options, wanted_by, wanted_of_words}
use Rattle.fc_view_args.specs.Matches.{given_in}
use Rattle.fc_view_args.proofs.Steps.{all_taken}
use Rattle.fc_view_args.proofs.Verdicts.{level, read_given}

abbrev Stop : Type 0
Stop = Option (Text × List Text)

-- the command has no subcommand, so none is entered
faults_are : (words : List Text) → fault_of viewer words ≡ level_fault level [] nothing_held words false []
faults_are words = go (walk level.rules [] nothing_held words).stopped
  where
    go : (stop : Stop) → level_fault level [] nothing_held words (is_some (entered (built viewer) stop)) (entered_fault (built viewer) stop) ≡ level_fault level [] nothing_held words false []
    go None = refl
    go (Some stop) = refl

words_taken : (words : List Text) → list_any is_stray words ≡ false → ended read_given (fault_of viewer words) (matches_of viewer words) ≡ given_after no_options false words
words_taken words clean = ap (λ ks. ended read_given ks (matches_of viewer words)) (faults_are words) ∙ all_taken words clean

-- a parse that is done gives what the words ask for
pub parse_done : (words : List Text) → list_any is_stray words ≡ false → (app : App) → app ≡ viewer → (m : ArgMatches) → HasMatchesOf app words m → fault_of app words ≡ []
    → wanted_of_words (given_in (rows_of (found_of m))) ≡ wanted_by words
parse_done words clean app is m has none =
    let passes : fault_of viewer words ≡ [] = sym (ap (λ a. fault_of a words) is) ∙ none in
    ap (λ rows. wanted_of_words (given_in rows)) ((has (ap is_simple is)).0 ∙ ap (λ a. matches_of a words) is)
    ∙ ap (option_and_then wanted_of_words) (sym (ap (λ ks. ended read_given ks (matches_of viewer words)) passes) ∙ words_taken words clean)

among_fails : (k : ErrorKind) (ks : Kinds) (words : List Text) → IsAmong k ks → option_and_then wanted_of_words (ended read_given ks (matches_of viewer words)) ≡ None
among_fails k [] words among = absurd among
among_fails k (x ∷ ks) words among = refl

-- a parse that is refused for the words shows that they ask for nothing
pub parse_refused : (words : List Text) → list_any is_stray words ≡ false → (app : App) → app ≡ viewer → (k : ErrorKind) → IsAmong k (fault_of app words) → None ≡ wanted_by words
parse_refused words clean app is k among =
    let P : App → Type 0 = λ a. IsAmong k (fault_of a words) in
    sym (among_fails k (fault_of viewer words) words (subst P is among)) ∙ ap (option_and_then wanted_of_words) (words_taken words clean)
