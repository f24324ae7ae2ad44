-- Words of which one is stray ask for nothing.
use Rattle.std.proofs.Common.{◌≡◌, Bool, true, false, cond, List, ◌∷◌, None, refl, ap, option_and_then}
use Rattle.std.specs.List.{list_any}
use Rattle.clap.specs.Words.{Text}
use Rattle.fc_args.specs.Program.{is_stray}
use Rattle.fc_args.proofs.HyphenLemmas.{none_after, stray_fails, stray_hyphen, stray_option}
use Rattle.fc_view_args.specs.Grammar.{Given, give, give_next, given_after, given_by, no_options, option_by, option_of_word, wanted_by, wanted_of_words}

abbrev Fail : List Text → Type 0
Fail words = (given : Given) (waits : Bool) → given_after given waits words ≡ None

stops : (word : Text) (words : List Text) → is_stray word ≡ true → Fail (word ∷ words)
stops word words is given false = ap (λ o. option_and_then (λ next. given_after next.0 next.1 words) (given_by o given)) (stray_option option_by refl word is)
stops word words is given true = ap (λ b. option_and_then (λ now. given_after now false words) (cond b None (give word given))) (stray_hyphen word is)

goes_on : (word : Text) (words : List Text) → Fail words → Fail (word ∷ words)
goes_on word words fail given false = none_after (λ next. given_after next.0 next.1 words) (λ next. fail next.0 next.1) (given_by (option_of_word word) given)
goes_on word words fail given true = none_after (λ now. given_after now false words) (λ now. fail now false) (give_next word given)

pub stray_refused : (words : List Text) → list_any is_stray words ≡ true → wanted_by words ≡ None
stray_refused words e = ap (option_and_then wanted_of_words) (stray_fails given_after stops goes_on words e no_options false)
