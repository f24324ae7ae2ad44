-- Each word of a run, as `clap` takes it.
use Rattle.std.proofs.Common.{◌≡◌, ◌∙◌, ℕ, Bool, true, false, cond, List, [], ◌∷◌, Option, Some, None, is_some, option_map, refl, sym, ap, ap₂, codes, option_and_then, ◌⊎◌, inl, inr}
use Rattle.std.specs.List.{list_any}
use Rattle.std.specs.Str.{bytes_eq}
use Rattle.clap.specs.Faults.{settle_fault}
use Rattle.clap.specs.Walk.{Row, Text, Walk, arg_by_long, has_row, idle, nothing_held, option, settled_rows, used, walk_from, walked}
use Rattle.clap.specs.declared.error.kind.ErrorKind.TheVariants as kind
use Rattle.fc_args.specs.Grammar.{Given, Valued, Grain, Cache, Unknown, flag, give, given_after, given_by, no_options, option_by, option_named, option_of_word, valued}
use Rattle.fc_args.specs.Program.{is_stray}
use Rattle.fc_args.proofs.HyphenLemmas.{IsOption, IsPlain, OptionForm, classify, or_parts}
use Rattle.fc_args.proofs.OptionSteps.{Meaning, apart_turn, apart_walk, doomed, flag_turn, flag_walk, joined_turn, joined_walk, of_flag, of_none, of_valued, option_refused, plain_turn, unknown_turn, value_turn, valued_flag_turn}
use Rattle.fc_args.proofs.RunLevel.{Shows, chosen, found_cache, found_grain, found_none, found_trace, give_is, has_chosen, idle_ends, level, name_of, read_given, rule_of, rules, shows_trace, shows_valued, takes, trace_rule, value_missing, verdict, verdict_fails, verdict_step, with_value}
use Rattle.fc_args.proofs.Verdicts.{fails, held, walk_at}

-- ---- what a name is

data Named (name : Text) : Type 0 where
  is_valued : (o : Valued) → arg_by_long rules name ≡ Some (rule_of o) → ((value : Option Text) → option_named name value ≡ valued o value) → Named name
  is_flag : arg_by_long rules name ≡ Some trace_rule → ((value : Option Text) → option_named name value ≡ flag value) → Named name
  is_unknown : arg_by_long rules name ≡ None → ((value : Option Text) → option_named name value ≡ Unknown) → Named name

named_by : (name : Text) (g t c : Bool) → bytes_eq (codes "grain") name ≡ g → bytes_eq (codes "trace") name ≡ t → bytes_eq (codes "cache") name ≡ c → Named name
named_by name true t c eg et ec = is_valued Grain (found_grain name eg) (λ value. rw eg refl)
named_by name false true c eg et ec = is_flag (found_trace name eg et) (λ value. rw (eg, et) refl)
named_by name false false true eg et ec = is_valued Cache (found_cache name eg et ec) (λ value. rw (eg, et, ec) refl)
named_by name false false false eg et ec = is_unknown (found_none name eg et ec) (λ value. rw (eg, et, ec) refl)

named : (name : Text) → Named name
named name = named_by name (bytes_eq (codes "grain") name) (bytes_eq (codes "trace") name) (bytes_eq (codes "cache") name) refl refl refl

option_read : (word name : Text) (value : Option Text) → IsOption word name value → option_of_word word ≡ option_named name value
option_read word name value is = ap option_by is.after ∙ ap₂ option_named is.name_is is.value_is

meaning_of : (name : Text) → Named name → Meaning level name
meaning_of name (is_valued o found read) = of_valued (name_of o) found
meaning_of name (is_flag found read) = of_flag (codes "trace") found
meaning_of name (is_unknown found read) = of_none found

meaning : (name : Text) → Meaning level name
meaning name = meaning_of name (named name)

-- ---- a word that is the value of an option

value_walk : (o : Valued) (rows : List Row) (skip : ℕ) (word : Text) → IsPlain word
    → walked rules [] (walk_at (held rows (Some (name_of o, [])) skip) (option (name_of o))) word ≡ walk_at (held rows (Some (name_of o, word ∷ [])) skip) idle
unfolding walked
value_walk Grain rows skip word is = rw (is.no_end, is.long, is.short) refl
value_walk Cache rows skip word is = rw (is.no_end, is.long, is.short) refl

value_settles : (o : Valued) (rows : List Row) (skip : ℕ) (word : Text) (b : Bool) → has_row (name_of o) rows ≡ b
    → settle_fault rules false (held rows (Some (name_of o, word ∷ [])) skip) ≡ cond b (kind.ArgumentConflict ∷ []) []
value_settles Grain rows skip word true has = rw has refl
value_settles Grain rows skip word false has = rw has refl
value_settles Cache rows skip word true has = rw has refl
value_settles Cache rows skip word false has = rw has refl

shows_value : (o : Valued) (rows : List Row) (word : Text) (given : Given) → Shows rows given → is_some (chosen o given) ≡ false
    → Shows (settled_rows rules (Some (name_of o, word ∷ [])) rows) (with_value o word given)
shows_value Grain rows word given s none = shows_valued Grain word rows given s none
shows_value Cache rows word given s none = shows_valued Cache word rows given s none

-- ---- all words

abbrev state : List Row → Option (Text × List Text) → ℕ → Option Valued → Walk
state rows pending skip None = walk_at (held rows pending skip) idle
state rows pending skip (Some o) = walk_at (held rows (Some (name_of o, [])) skip) (option (name_of o))

abbrev Stands : List Row → Option (Text × List Text) → ℕ → Given → Option Valued → Type 0
Stands rows pending skip given None = (settle_fault rules false (held rows pending skip) ≡ []) × Shows (settled_rows rules pending rows) given
Stands rows pending skip given (Some o) = Shows rows given

-- the rest of the words, from any state
abbrev Onward : List Text → Type 0
Onward words = (rows : List Row) (pending : Option (Text × List Text)) (skip : ℕ) (given : Given) (waiting : Option Valued) → Stands rows pending skip given waiting
    → verdict (state rows pending skip waiting) words ≡ given_after given waiting words

abbrev continued : List Text → Option (Given × Option Valued) → Option Given
continued words = option_and_then (λ next. given_after next.0 next.1 words)

abbrev continued_idle : List Text → Option Given → Option Given
continued_idle words = option_and_then (λ now. given_after now None words)

module _ (word : Text) (words : List Text) (onward : Onward words) (rows : List Row) (pending : Option (Text × List Text)) (skip : ℕ) (given : Given)
    (settles : settle_fault rules false (held rows pending skip) ≡ []) (s : Shows (settled_rows rules pending rows) given) where
  joined_goes : (o : Valued) (name value : Text) → IsOption word name (Some value) → arg_by_long rules name ≡ Some (rule_of o) → (b : Bool) → is_some (chosen o given) ≡ b
      → verdict (walk_at (held rows pending skip) idle) (word ∷ words) ≡ continued words (option_map (λ now. (now, None)) (cond b None (Some (with_value o value given))))
  joined_goes o name value is found true e =
      verdict_fails _ word words (ap fails (joined_turn level takes (name_of o) (held rows pending skip) word name value is found settles true (has_chosen o _ given s ∙ e)))
  joined_goes o name value is found false e =
      verdict_step _ word words (joined_turn level takes (name_of o) (held rows pending skip) word name value is found settles false (has_chosen o _ given s ∙ e))
      ∙ ap (λ w. verdict w words) (joined_walk level takes (name_of o) (held rows pending skip) word name value is found)
      ∙ onward (used (rule_of o) (value ∷ []) (settled_rows rules pending rows)) None skip (with_value o value given) None (refl, shows_valued o value _ given s e)

  apart_goes : (o : Valued) (name : Text) → IsOption word name None → arg_by_long rules name ≡ Some (rule_of o)
      → verdict (walk_at (held rows pending skip) idle) (word ∷ words) ≡ given_after given (Some o) words
  apart_goes o name is found =
      verdict_step _ word words (apart_turn level takes (name_of o) (held rows pending skip) word name is found settles)
      ∙ ap (λ w. verdict w words) (apart_walk level takes (name_of o) (held rows pending skip) word name is found)
      ∙ onward (settled_rows rules pending rows) None skip given (Some o) s

  flag_goes : (name : Text) → IsOption word name None → arg_by_long rules name ≡ Some trace_rule → (b : Bool) → given.trace ≡ b
      → verdict (walk_at (held rows pending skip) idle) (word ∷ words) ≡ continued words (option_map (λ now. (now, None)) (cond b None (Some (record given { trace = true }))))
  flag_goes name is found true e =
      verdict_fails _ word words (ap fails (flag_turn level takes (codes "trace") (held rows pending skip) word name is found settles true (s.has_trace ∙ e)))
  flag_goes name is found false e =
      verdict_step _ word words (flag_turn level takes (codes "trace") (held rows pending skip) word name is found settles false (s.has_trace ∙ e))
      ∙ ap (λ w. verdict w words) (flag_walk level takes (codes "trace") (held rows pending skip) word name is found)
      ∙ onward (used trace_rule [] (settled_rows rules pending rows)) None skip (record given { trace = true }) None (refl, shows_trace _ given s e)

  option_goes : (name : Text) (value : Option Text) → IsOption word name value → Named name
      → verdict (walk_at (held rows pending skip) idle) (word ∷ words) ≡ continued words (given_by (option_named name value) given)
  option_goes name (Some value) is (is_valued o found read) =
      joined_goes o name value is found (is_some (chosen o given)) refl
      ∙ ap (λ g. continued words (option_map (λ now. (now, None)) g)) (sym (give_is o value given (is_some (chosen o given)) refl)) ∙ ap (λ word. continued words (given_by word given)) (sym (read (Some value)))
  option_goes name None is (is_valued o found read) = apart_goes o name is found ∙ ap (λ word. continued words (given_by word given)) (sym (read None))
  option_goes name (Some value) is (is_flag found read) =
      verdict_fails _ word words (ap fails (valued_flag_turn level takes (codes "trace") (held rows pending skip) word name value is found)) ∙ ap (λ word. continued words (given_by word given)) (sym (read (Some value)))
  option_goes name None is (is_flag found read) = flag_goes name is found given.trace refl ∙ ap (λ word. continued words (given_by word given)) (sym (read None))
  option_goes name value is (is_unknown found read) =
      verdict_fails _ word words (ap fails (unknown_turn level takes (held rows pending skip) word name value is found)) ∙ ap (λ word. continued words (given_by word given)) (sym (read value))

  word_goes : IsPlain word ⊎ OptionForm word → verdict (walk_at (held rows pending skip) idle) (word ∷ words) ≡ given_after given None (word ∷ words)
  word_goes (inl is) =
      verdict_fails _ word words (ap fails (plain_turn level takes (held rows pending skip) word is)) ∙ ap (λ word. continued words (given_by word given)) (ap option_by (sym is.after))
  word_goes (inr is) = option_goes is.0 is.1 is.2 (named is.0) ∙ ap (λ word. continued words (given_by word given)) (sym (option_read word is.0 is.1 is.2))

module _ (word : Text) (words : List Text) (clean : list_any is_stray words ≡ false) (onward : Onward words) (rows : List Row) (skip : ℕ) (given : Given) (s : Shows rows given) where
  value_taken : (o : Valued) → IsPlain word → (b : Bool) → is_some (chosen o given) ≡ b
      → verdict (walk_at (held rows (Some (name_of o, [])) skip) (option (name_of o))) (word ∷ words) ≡ continued_idle words (cond b None (Some (with_value o word given)))
  value_taken o is true e =
      verdict_step _ word words (value_turn level takes (name_of o) rows skip word is) ∙ ap (λ w. verdict w words) (value_walk o rows skip word is)
      ∙ doomed level takes meaning read_given words clean rows (Some (name_of o, word ∷ [])) skip kind.ArgumentConflict [] (value_settles o rows skip word true (has_chosen o rows given s ∙ e))
  value_taken o is false e =
      verdict_step _ word words (value_turn level takes (name_of o) rows skip word is) ∙ ap (λ w. verdict w words) (value_walk o rows skip word is)
      ∙ onward rows (Some (name_of o, word ∷ [])) skip (with_value o word given) None (value_settles o rows skip word false (has_chosen o rows given s ∙ e), shows_value o rows word given s e)

  plain_goes : (o : Valued) → IsPlain word
      → verdict (walk_at (held rows (Some (name_of o, [])) skip) (option (name_of o))) (word ∷ words) ≡ given_after given (Some o) (word ∷ words)
  plain_goes o is =
      value_taken o is (is_some (chosen o given)) refl ∙ ap (continued_idle words) (sym (give_is o word given (is_some (chosen o given)) refl))
      ∙ ap (λ b. continued_idle words (cond b None (give o word given))) (sym is.hyphen)

  missing_settles : (o : Valued) → settle_fault rules false (held rows (Some (name_of o, [])) skip) ≡ kind.InvalidValue ∷ []
  missing_settles Grain = refl
  missing_settles Cache = refl

  next_goes : (o : Valued) → IsPlain word ⊎ OptionForm word
      → verdict (walk_at (held rows (Some (name_of o, [])) skip) (option (name_of o))) (word ∷ words) ≡ given_after given (Some o) (word ∷ words)
  next_goes o (inl is) = plain_goes o is
  next_goes o (inr is) =
      verdict_fails _ word words (option_refused level takes meaning (held rows (Some (name_of o, [])) skip) (option (name_of o)) word is.0 is.1 is.2 kind.InvalidValue [] (missing_settles o))
      ∙ ap (λ b. continued_idle words (cond b None (give o word given))) (sym is.2.hyphen)

pub taken : (words : List Text) → list_any is_stray words ≡ false → (rows : List Row) (pending : Option (Text × List Text)) (skip : ℕ) (given : Given) (waiting : Option Valued)
    → Stands rows pending skip given waiting → verdict (state rows pending skip waiting) words ≡ given_after given waiting words
taken [] clean rows pending skip given None stands = idle_ends rows pending skip given stands.0 stands.1
taken [] clean rows pending skip given (Some o) stands = value_missing o rows skip
taken (word ∷ words) clean rows pending skip given None stands =
    let both = or_parts (is_stray word) (list_any is_stray words) clean in
    word_goes word words (taken words both.1) rows pending skip given stands.0 stands.1 (classify word both.0)
taken (word ∷ words) clean rows pending skip given (Some o) stands =
    let both = or_parts (is_stray word) (list_any is_stray words) clean in
    next_goes word words both.1 (taken words both.1) rows skip given stands o (classify word both.0)

-- the words of a run, from the first
pub run_taken : (words : List Text) → list_any is_stray words ≡ false → verdict (walk_from nothing_held) words ≡ given_after no_options None words
run_taken words clean = taken words clean [] None 0 no_options None (refl, record { grain = refl; has_grain = refl; has_trace = refl; trace = refl; cache = refl; has_cache = refl })
