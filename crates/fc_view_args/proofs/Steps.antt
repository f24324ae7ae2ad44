-- Each word, as `clap` takes it.
use Rattle.std.proofs.Common.{◌≡◌, ◌∙◌, ℕ, Bool, true, false, cond, List, [], ◌∷◌, Option, Some, None, is_some, option_map, refl, sym, ap, ap₂, codes, option_and_then, ◌⊎◌, inl, inr}
use Rattle.std.specs.List.{list_any}
use Rattle.std.specs.Str.{bytes_eq}
use Rattle.clap.specs.Faults.{settle_fault}
use Rattle.clap.specs.Walk.{Row, Text, Walk, arg_by_long, has_row, idle, nothing_held, option, settled_rows, used, walk_from, walked}
use Rattle.clap.specs.declared.error.kind.ErrorKind.TheVariants as kind
use Rattle.fc_args.specs.Program.{is_stray}
use Rattle.fc_args.proofs.HyphenLemmas.{IsOption, IsPlain, OptionForm, classify, or_parts}
use Rattle.fc_args.proofs.OptionSteps.{Meaning, apart_turn, apart_walk, doomed, flag_turn, flag_walk, joined_turn, joined_walk, of_flag, of_none, of_valued, option_refused, plain_turn, unknown_turn, value_turn, valued_flag_turn}
use Rattle.fc_args.proofs.Verdicts.{fails, held, walk_at}
use Rattle.fc_view_args.specs.Grammar.{Given, Unknown, flag, give, given_after, given_by, no_options, option_by, option_named, option_of_word, valued}
use Rattle.fc_view_args.proofs.Level.{Shows, at_filled, at_name, found_at, found_none, found_svg, give_is, idle_ends, rules, shows_at, shows_svg, svg_filled, takes, value_missing, with_at, with_svg}
use Rattle.fc_view_args.proofs.Verdicts.{level, read_given, verdict, verdict_fails, verdict_step}

-- ---- what a name is

data Named (name : Text) : Type 0 where
  is_valued : arg_by_long rules name ≡ Some at_filled → ((value : Option Text) → option_named name value ≡ valued value) → Named name
  is_flag : arg_by_long rules name ≡ Some svg_filled → ((value : Option Text) → option_named name value ≡ flag value) → Named name
  is_unknown : arg_by_long rules name ≡ None → ((value : Option Text) → option_named name value ≡ Unknown) → Named name

named_by : (name : Text) (a s : Bool) → bytes_eq (codes "at") name ≡ a → bytes_eq (codes "svg") name ≡ s → Named name
named_by name true s ea es = is_valued (found_at name ea) (λ value. rw ea refl)
named_by name false true ea es = is_flag (found_svg name ea es) (λ value. rw (ea, es) refl)
named_by name false false ea es = is_unknown (found_none name ea es) (λ value. rw (ea, es) refl)

named : (name : Text) → Named name
named name = named_by name (bytes_eq (codes "at") name) (bytes_eq (codes "svg") name) refl refl

option_read : (word name : Text) (value : Option Text) → IsOption word name value → option_of_word word ≡ option_named name value
option_read word name value is = ap option_by is.after ∙ ap₂ option_named is.name_is is.value_is

meaning_of : (name : Text) → Named name → Meaning level name
meaning_of name (is_valued found read) = of_valued at_name found
meaning_of name (is_flag found read) = of_flag (codes "svg") found
meaning_of name (is_unknown found read) = of_none found

meaning : (name : Text) → Meaning level name
meaning name = meaning_of name (named name)

-- ---- a word that is the value of the option

value_walk : (rows : List Row) (skip : ℕ) (word : Text) → IsPlain word
    → walked rules [] (walk_at (held rows (Some (at_name, [])) skip) (option at_name)) word ≡ walk_at (held rows (Some (at_name, word ∷ [])) skip) idle
unfolding walked
value_walk rows skip word is = rw (is.no_end, is.long, is.short) refl

value_settles : (rows : List Row) (skip : ℕ) (word : Text) (b : Bool) → has_row at_name rows ≡ b
    → settle_fault rules false (held rows (Some (at_name, word ∷ [])) skip) ≡ cond b (kind.ArgumentConflict ∷ []) []
value_settles rows skip word true has = rw has refl
value_settles rows skip word false has = rw has refl

-- ---- all words

abbrev state : List Row → Option (Text × List Text) → ℕ → Bool → Walk
state rows pending skip false = walk_at (held rows pending skip) idle
state rows pending skip true = walk_at (held rows (Some (at_name, [])) skip) (option at_name)

abbrev Stands : List Row → Option (Text × List Text) → ℕ → Given → Bool → Type 0
Stands rows pending skip given false = (settle_fault rules false (held rows pending skip) ≡ []) × Shows (settled_rows rules pending rows) given
Stands rows pending skip given true = Shows rows given

-- the rest of the words, from any state
abbrev Onward : List Text → Type 0
Onward words = (rows : List Row) (pending : Option (Text × List Text)) (skip : ℕ) (given : Given) (waits : Bool) → Stands rows pending skip given waits
    → verdict (state rows pending skip waits) words ≡ given_after given waits words

abbrev continued : List Text → Option (Given × Bool) → Option Given
continued words = option_and_then (λ next. given_after next.0 next.1 words)

abbrev continued_idle : List Text → Option Given → Option Given
continued_idle words = option_and_then (λ now. given_after now false words)

module _ (word : Text) (words : List Text) (onward : Onward words) (rows : List Row) (pending : Option (Text × List Text)) (skip : ℕ) (given : Given)
    (settles : settle_fault rules false (held rows pending skip) ≡ []) (s : Shows (settled_rows rules pending rows) given) where
  joined_goes : (name value : Text) → IsOption word name (Some value) → arg_by_long rules name ≡ Some at_filled → (b : Bool) → is_some given.at ≡ b
      → verdict (walk_at (held rows pending skip) idle) (word ∷ words) ≡ continued words (option_map (λ now. (now, false)) (cond b None (Some (with_at value given))))
  joined_goes name value is found true e =
      verdict_fails _ word words (ap fails (joined_turn level takes at_name (held rows pending skip) word name value is found settles true (s.has_at ∙ e)))
  joined_goes name value is found false e =
      verdict_step _ word words (joined_turn level takes at_name (held rows pending skip) word name value is found settles false (s.has_at ∙ e))
      ∙ ap (λ w. verdict w words) (joined_walk level takes at_name (held rows pending skip) word name value is found)
      ∙ onward (used at_filled (value ∷ []) (settled_rows rules pending rows)) None skip (with_at value given) false (refl, shows_at value _ given s e)

  apart_goes : (name : Text) → IsOption word name None → arg_by_long rules name ≡ Some at_filled
      → verdict (walk_at (held rows pending skip) idle) (word ∷ words) ≡ given_after given true words
  apart_goes name is found =
      verdict_step _ word words (apart_turn level takes at_name (held rows pending skip) word name is found settles)
      ∙ ap (λ w. verdict w words) (apart_walk level takes at_name (held rows pending skip) word name is found)
      ∙ onward (settled_rows rules pending rows) None skip given true s

  flag_goes : (name : Text) → IsOption word name None → arg_by_long rules name ≡ Some svg_filled → (b : Bool) → given.svg ≡ b
      → verdict (walk_at (held rows pending skip) idle) (word ∷ words) ≡ continued words (option_map (λ now. (now, false)) (cond b None (Some (with_svg given))))
  flag_goes name is found true e =
      verdict_fails _ word words (ap fails (flag_turn level takes (codes "svg") (held rows pending skip) word name is found settles true (s.has_svg ∙ e)))
  flag_goes name is found false e =
      verdict_step _ word words (flag_turn level takes (codes "svg") (held rows pending skip) word name is found settles false (s.has_svg ∙ e))
      ∙ ap (λ w. verdict w words) (flag_walk level takes (codes "svg") (held rows pending skip) word name is found)
      ∙ onward (used svg_filled [] (settled_rows rules pending rows)) None skip (with_svg given) false (refl, shows_svg _ given s e)

  option_goes : (name : Text) (value : Option Text) → IsOption word name value → Named name
      → verdict (walk_at (held rows pending skip) idle) (word ∷ words) ≡ continued words (given_by (option_named name value) given)
  option_goes name (Some value) is (is_valued found read) =
      joined_goes name value is found (is_some given.at) refl
      ∙ ap (λ g. continued words (option_map (λ now. (now, false)) g)) (sym (give_is value given (is_some given.at) refl)) ∙ ap (λ word. continued words (given_by word given)) (sym (read (Some value)))
  option_goes name None is (is_valued found read) = apart_goes name is found ∙ ap (λ word. continued words (given_by word given)) (sym (read None))
  option_goes name (Some value) is (is_flag found read) =
      verdict_fails _ word words (ap fails (valued_flag_turn level takes (codes "svg") (held rows pending skip) word name value is found)) ∙ ap (λ word. continued words (given_by word given)) (sym (read (Some value)))
  option_goes name None is (is_flag found read) = flag_goes name is found given.svg refl ∙ ap (λ word. continued words (given_by word given)) (sym (read None))
  option_goes name value is (is_unknown found read) =
      verdict_fails _ word words (ap fails (unknown_turn level takes (held rows pending skip) word name value is found)) ∙ ap (λ word. continued words (given_by word given)) (sym (read value))

  word_goes : IsPlain word ⊎ OptionForm word → verdict (walk_at (held rows pending skip) idle) (word ∷ words) ≡ given_after given false (word ∷ words)
  word_goes (inl is) =
      verdict_fails _ word words (ap fails (plain_turn level takes (held rows pending skip) word is)) ∙ ap (λ word. continued words (given_by word given)) (ap option_by (sym is.after))
  word_goes (inr is) = option_goes is.0 is.1 is.2 (named is.0) ∙ ap (λ word. continued words (given_by word given)) (sym (option_read word is.0 is.1 is.2))

module _ (word : Text) (words : List Text) (clean : list_any is_stray words ≡ false) (onward : Onward words) (rows : List Row) (skip : ℕ) (given : Given) (s : Shows rows given) where
  value_taken : IsPlain word → (b : Bool) → is_some given.at ≡ b
      → verdict (walk_at (held rows (Some (at_name, [])) skip) (option at_name)) (word ∷ words) ≡ continued_idle words (cond b None (Some (with_at word given)))
  value_taken is true e =
      verdict_step _ word words (value_turn level takes at_name rows skip word is) ∙ ap (λ w. verdict w words) (value_walk rows skip word is)
      ∙ doomed level takes meaning read_given words clean rows (Some (at_name, word ∷ [])) skip kind.ArgumentConflict [] (value_settles rows skip word true (s.has_at ∙ e))
  value_taken is false e =
      verdict_step _ word words (value_turn level takes at_name rows skip word is) ∙ ap (λ w. verdict w words) (value_walk rows skip word is)
      ∙ onward rows (Some (at_name, word ∷ [])) skip (with_at word given) false (value_settles rows skip word false (s.has_at ∙ e), shows_at word rows given s e)

  plain_goes : IsPlain word → verdict (walk_at (held rows (Some (at_name, [])) skip) (option at_name)) (word ∷ words) ≡ given_after given true (word ∷ words)
  plain_goes is =
      value_taken is (is_some given.at) refl ∙ ap (continued_idle words) (sym (give_is word given (is_some given.at) refl))
      ∙ ap (λ b. continued_idle words (cond b None (give word given))) (sym is.hyphen)

  missing_settles : settle_fault rules false (held rows (Some (at_name, [])) skip) ≡ kind.InvalidValue ∷ []
  missing_settles = refl

  next_goes : IsPlain word ⊎ OptionForm word → verdict (walk_at (held rows (Some (at_name, [])) skip) (option at_name)) (word ∷ words) ≡ given_after given true (word ∷ words)
  next_goes (inl is) = plain_goes is
  next_goes (inr is) =
      verdict_fails _ word words (option_refused level takes meaning (held rows (Some (at_name, [])) skip) (option at_name) word is.0 is.1 is.2 kind.InvalidValue [] missing_settles)
      ∙ ap (λ b. continued_idle words (cond b None (give word given))) (sym is.2.hyphen)

taken : (words : List Text) → list_any is_stray words ≡ false → (rows : List Row) (pending : Option (Text × List Text)) (skip : ℕ) (given : Given) (waits : Bool)
    → Stands rows pending skip given waits → verdict (state rows pending skip waits) words ≡ given_after given waits words
taken [] clean rows pending skip given false stands = idle_ends rows pending skip given stands.0 stands.1
taken [] clean rows pending skip given true stands = value_missing rows skip
taken (word ∷ words) clean rows pending skip given false stands =
    let both = or_parts (is_stray word) (list_any is_stray words) clean in
    word_goes word words (taken words both.1) rows pending skip given stands.0 stands.1 (classify word both.0)
taken (word ∷ words) clean rows pending skip given true stands =
    let both = or_parts (is_stray word) (list_any is_stray words) clean in
    next_goes word words both.1 (taken words both.1) rows skip given stands (classify word both.0)

-- all words, from the first
pub all_taken : (words : List Text) → list_any is_stray words ≡ false → verdict (walk_from nothing_held) words ≡ given_after no_options false words
all_taken words clean = taken words clean [] None 0 no_options false (refl, record { at = refl; has_at = refl; has_svg = refl; svg = refl })
