-- The number of a command, and a command alone, as `clap` walks over them.
use Rattle.std.proofs.Common.{◌≡◌, ◌∙◌, false, List, [], ◌∷◌, Option, Some, None, refl, sym, ap, codes, option_and_then, ◌⊎◌, inl, inr}
use Rattle.std.specs.List.{list_any}
use Rattle.clap.specs.Faults.{defaults_fault, turn_fault, walk_fault}
use Rattle.clap.specs.Simple.{Shape}
use Rattle.clap.specs.Walk.{Rule, Text, Walk, idle, nothing_held, walk_from, walked}
use Rattle.clap.specs.Words.{new_app}
use Rattle.clap.specs.declared.error.kind.ErrorKind.TheVariants as kind
use Rattle.fc_args.specs.Grammar.{alone}
use Rattle.fc_args.specs.Matches.{number_in}
use Rattle.fc_args.specs.Program.{is_stray, numbered_app}
use Rattle.fc_args.proofs.HyphenLemmas.{IsOption, IsPlain, OptionForm, classify, or_parts}
use Rattle.fc_args.proofs.Verdicts.{fails, held, level_of, refused_at, step_of, verdict_of}

abbrev pub number_level : Text → Shape
number_level name = level_of (numbered_app name).top

abbrev pub check_level : Shape
check_level = level_of (new_app (codes "check")).top

module _ (name : Text) where
  abbrev rules : List Rule
  rules = (number_level name).rules

  abbrev pub verdict : Walk → List Text → Option Text
  verdict = verdict_of (number_level name) number_in

  -- after one word
  abbrev with_number : Text → Walk
  with_number word = record { held = held [] (Some (codes "number", word ∷ [])) 0; waiting = idle; position = 2; is_trailing = false; stopped = None }

  plain_turn : (word : Text) → IsPlain word → turn_fault (number_level name) [] (walk_from nothing_held) word ≡ []
  plain_turn word is = rw (is.no_end, is.long, is.short) refl

  plain_walk : (word : Text) → IsPlain word → walked rules [] (walk_from nothing_held) word ≡ with_number word
  unfolding walked
  plain_walk word is = rw (is.no_end, is.long, is.short) refl

  option_turn : (word text : Text) (value : Option Text) → IsOption word text value → turn_fault (number_level name) [] (walk_from nothing_held) word ≡ kind.UnknownArgument ∷ []
  option_turn word text value is = rw (is.no_end, is.long) refl

  second_turn : (first word : Text) → IsPlain word ⊎ OptionForm word → turn_fault (number_level name) [] (with_number first) word ≡ kind.UnknownArgument ∷ []
  second_turn first word (inl is) = rw (is.no_end, is.long, is.short) refl
  second_turn first word (inr is) = rw (is.2.no_end, is.2.long) refl

  one_number : (word : Text) → verdict (with_number word) [] ≡ Some word
  unfolding walk_fault defaults_fault
  one_number word = refl

  no_number : verdict (walk_from nothing_held) [] ≡ None
  unfolding walk_fault defaults_fault
  no_number = refl

  module _ {N : Type 0} (read : Text → Option N) (hyphen : (word text : Text) (value : Option Text) → IsOption word text value → read word ≡ None) where
    first_taken : (word : Text) (words : List Text) → IsPlain word ⊎ OptionForm word → (words ≡ []) ⊎ ((next : Text) × (rest : List Text) × (words ≡ next ∷ rest) × (IsPlain next ⊎ OptionForm next))
        → option_and_then read (verdict (walk_from nothing_held) (word ∷ words)) ≡ option_and_then read (alone (word ∷ words))
    first_taken word words (inl is) (inl none) =
        let one : verdict (walk_from nothing_held) (word ∷ []) ≡ Some word =
        step_of (number_level name) number_in _ word [] (plain_turn word is) ∙ ap (λ w. verdict w []) (plain_walk word is) ∙ one_number word in
        rw none (ap (option_and_then read) one)
    first_taken word words (inl is) (inr more) =
        let two : verdict (walk_from nothing_held) (word ∷ more.0 ∷ more.1) ≡ None =
        step_of (number_level name) number_in _ word (more.0 ∷ more.1) (plain_turn word is) ∙ ap (λ w. verdict w (more.0 ∷ more.1)) (plain_walk word is)
        ∙ refused_at (number_level name) number_in _ more.0 more.1 (ap fails (second_turn word more.0 more.3)) in
        rw more.2 (ap (option_and_then read) two)
    first_taken word words (inr is) (inl none) =
        ap (option_and_then read) (refused_at (number_level name) number_in _ word words (ap fails (option_turn word is.0 is.1 is.2))) ∙ rw none (sym (hyphen word is.0 is.1 is.2))
    first_taken word words (inr is) (inr more) =
        ap (option_and_then read) (refused_at (number_level name) number_in _ word words (ap fails (option_turn word is.0 is.1 is.2))) ∙ rw more.2 refl

    rest_of : (words : List Text) → list_any is_stray words ≡ false → (words ≡ []) ⊎ ((next : Text) × (rest : List Text) × (words ≡ next ∷ rest) × (IsPlain next ⊎ OptionForm next))
    rest_of [] clean = inl refl
    rest_of (word ∷ words) clean = inr (word, words, refl, classify word (or_parts (is_stray word) (list_any is_stray words) clean).0)

    -- one word and no other, as it is read
    pub number_taken : (words : List Text) → list_any is_stray words ≡ false
        → option_and_then read (verdict (walk_from nothing_held) words) ≡ option_and_then read (alone words)
    number_taken [] clean = ap (option_and_then read) no_number
    number_taken (word ∷ words) clean =
        let both = or_parts (is_stray word) (list_any is_stray words) clean in
        first_taken word words (classify word both.0) (rest_of words both.1)
