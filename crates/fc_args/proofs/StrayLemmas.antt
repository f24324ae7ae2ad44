-- Words of which one is stray ask for nothing.
use Rattle.std.proofs.Common.{◌≡◌, ℕ, ◌^◌, Bool, true, false, ◌&&◌, ◌||◌, cond, List, [], ◌∷◌, length, nat_le, Option, Some, None, option_map, refl, sym, subst, ap, true≢false, codes, option_and_then}
use Rattle.std.proofs.lemmas.Bool.{eqb-true}
use Rattle.std.specs.List.{list_any}
use Rattle.std.specs.Str.{bytes_eq}
use Rattle.std.specs.Str.Parse.{digits_value}
use Rattle.clap.specs.Words.{Text}
use Rattle.fc_args.specs.Grammar.{Given, Valued, alone, begins_with_hyphen, check_by, command_by, give, give_next, given_after, given_by, in_full, number_within, no_options, option_by, option_of_word, options_of_words}
use Rattle.fc_args.specs.Program.{is_stray}
use Rattle.fc_args.proofs.HyphenLemmas.{none_after, stray_fails, stray_hyphen, stray_option}
use Rattle.fc_args.specs.declared.asked.Asked.{Asked}
use Rattle.fc_args.specs.declared.asked.Asked.TheVariants.{Run, Drill, Stop}

none_left : (a : Bool) (x : Option ℕ) → cond (a && false) x None ≡ None
none_left true x = refl
none_left false x = refl

-- a number begins with no hyphen
pub hyphen_number : (least limit : ℕ) (word : Text) → begins_with_hyphen word ≡ true → number_within least limit word ≡ None
hyphen_number least limit [] e = absurd (true≢false (sym e))
hyphen_number least limit (a ∷ rest) e =
    let P : ℕ → Type 0 = λ a. number_within least limit (a ∷ rest) ≡ None in
    subst P (sym (eqb-true a 45 e)) (none_left (nat_le (length (45 ∷ rest)) 20) (Some (digits_value 10 (45 ∷ rest))))

-- the name of no command begins with a hyphen
hyphen_command : (word : Text) (words : List Text) → begins_with_hyphen word ≡ true → command_by word words ≡ None
hyphen_command [] words e = absurd (true≢false (sym e))
hyphen_command (a ∷ rest) words e =
    let P : ℕ → Type 0 = λ a. command_by (a ∷ rest) words ≡ None in
    subst P (sym (eqb-true a 45 e)) refl

-- ---- the options of a run

abbrev OptionsFail : List Text → Type 0
OptionsFail words = (given : Given) (waiting : Option Valued) → given_after given waiting words ≡ None

stops : (word : Text) (words : List Text) → is_stray word ≡ true → OptionsFail (word ∷ words)
stops word words is given None = ap (λ o. option_and_then (λ next. given_after next.0 next.1 words) (given_by o given)) (stray_option option_by refl word is)
stops word words is given (Some option) = ap (λ b. option_and_then (λ now. given_after now None words) (cond b None (give option word given))) (stray_hyphen word is)

goes_on : (word : Text) (words : List Text) → OptionsFail words → OptionsFail (word ∷ words)
goes_on word words fail given None = none_after (λ next. given_after next.0 next.1 words) (λ next. fail next.0 next.1) (given_by (option_of_word word) given)
goes_on word words fail given (Some option) = none_after (λ now. given_after now None words) (λ now. fail now None) (give_next option word given)

options_fail : (words : List Text) → list_any is_stray words ≡ true → OptionsFail words
options_fail = stray_fails given_after stops goes_on

-- ---- all words

alone_fails : (least limit : ℕ) (words : List Text) → list_any is_stray words ≡ true → option_and_then (number_within least limit) (alone words) ≡ None
alone_fails least limit [] e = refl
alone_fails least limit (word ∷ []) e = hyphen_number least limit word (stray_hyphen word (go (is_stray word) e))
  where
    go : (b : Bool) → (b || false) ≡ true → b ≡ true
    go true e = refl
    go false e = e
alone_fails least limit (word ∷ next ∷ rest) e = refl

check_fails : (words : List Text) → list_any is_stray words ≡ true → check_by words ≡ None
check_fails [] e = absurd (true≢false (sym e))
check_fails (word ∷ words) e = refl

no_command : (a b c d : Bool) (nothing : Option Asked) → cond a nothing (cond b nothing (cond c nothing (cond d nothing nothing))) ≡ nothing
no_command true b c d nothing = refl
no_command false true c d nothing = refl
no_command false false true d nothing = refl
no_command false false false true nothing = refl
no_command false false false false nothing = refl

later_stray : (word : Text) (words : List Text) → list_any is_stray words ≡ true → command_by word words ≡ None
later_stray word words e =
    rw (
      ap (λ given. option_map Run (option_and_then options_of_words given)) (options_fail words e no_options None),
      ap (option_map Drill) (alone_fails 0 (2 ^ 64) words e),
      check_fails words e,
      ap (option_map Stop) (alone_fails 1 (2 ^ 32) words e),
    ) (no_command (bytes_eq (codes "run") word) (bytes_eq (codes "drill") word) (bytes_eq (codes "check") word) (bytes_eq (codes "stop") word) None)

pub stray_refused : (words : List Text) → list_any is_stray words ≡ true → in_full words ≡ None
stray_refused [] e = absurd (true≢false (sym e))
stray_refused (word ∷ words) e = go (is_stray word) refl e
  where
    go : (b : Bool) → is_stray word ≡ b → (b || list_any is_stray words) ≡ true → command_by word words ≡ None
    go true is e = hyphen_command word words (stray_hyphen word is)
    go false is e = later_stray word words e
