-- A word of an option as `clap` takes it, at any level that refuses an option given twice, and has no positional and no subcommand.
use Rattle.std.proofs.Common.{◌≡◌, ℕ, Bool, true, false, cond, List, [], ◌∷◌, Option, Some, None, fold, refl, sym, ap, true≢false, ◌⊎◌, inl, inr}
use Rattle.std.specs.List.{list_any}
use Rattle.clap.specs.Faults.{check_fault, defaults_fault, long_fault, settle_fault, step_fault, turn_fault, walk_fault}
use Rattle.clap.specs.Kinds.{Kinds, or_else}
use Rattle.clap.specs.Simple.{Shape, filled}
use Rattle.clap.specs.Walk.{Held, Row, Text, Waiting, arg_by_index, arg_by_long, has_row, idle, long_word, option, positional, settled_rows, used, walked, with_default}
use Rattle.clap.specs.declared.error.kind.ErrorKind.{ErrorKind}
use Rattle.clap.specs.declared.error.kind.ErrorKind.TheVariants as kind
use Rattle.fc_args.specs.Program.{flag_rule, is_stray, valued_rule}
use Rattle.fc_args.proofs.HyphenLemmas.{IsOption, IsPlain, OptionForm, classify, or_parts}
use Rattle.fc_args.proofs.Verdicts.{fails, held, refused_at, verdict_of, walk_at}

pub record TakesOptions (s : Shape) : Type 0 where
  pub once : s.args_override_self ≡ false
  pub leaf : s.is_leaf ≡ true
  pub no_positional : arg_by_index s.rules 1 ≡ None

-- what a name is at a level
pub data Meaning (s : Shape) (name : Text) : Type 0 where
  of_valued : (id : Text) → arg_by_long s.rules name ≡ Some (filled (valued_rule id)) → Meaning s name
  of_flag : (id : Text) → arg_by_long s.rules name ≡ Some (filled (flag_rule id)) → Meaning s name
  of_none : arg_by_long s.rules name ≡ None → Meaning s name

fails_first : (a b : Kinds) → fails a ≡ true → fails (or_else a b) ≡ true
fails_first [] b e = absurd (true≢false (sym e))
fails_first (k ∷ ks) b e = refl

module _ (s : Shape) (takes : TakesOptions s) where
  -- ---- where nothing waits for a value

  pub joined_turn : (id : Text) (h : Held) (word name value : Text) → IsOption word name (Some value) → arg_by_long s.rules name ≡ Some (filled (valued_rule id)) → settle_fault s.rules false h ≡ []
      → (b : Bool) → has_row id (settled_rows s.rules h.pending h.rows) ≡ b → turn_fault s [] (walk_at h idle) word ≡ cond b (kind.ArgumentConflict ∷ []) []
  joined_turn id h word name value is found settles true has = rw (is.no_end, is.long, found, takes.once, settles, has) refl
  joined_turn id h word name value is found settles false has = rw (is.no_end, is.long, found, takes.once, settles, has) refl

  pub joined_walk : (id : Text) (h : Held) (word name value : Text) → IsOption word name (Some value) → arg_by_long s.rules name ≡ Some (filled (valued_rule id))
      → walked s.rules [] (walk_at h idle) word ≡ walk_at (held (used (filled (valued_rule id)) (value ∷ []) (settled_rows s.rules h.pending h.rows)) None h.skip) idle
  unfolding walked
  joined_walk id h word name value is found = rw (is.no_end, is.long, found) refl

  pub apart_turn : (id : Text) (h : Held) (word name : Text) → IsOption word name None → arg_by_long s.rules name ≡ Some (filled (valued_rule id)) → settle_fault s.rules false h ≡ []
      → turn_fault s [] (walk_at h idle) word ≡ []
  apart_turn id h word name is found settles = rw (is.no_end, is.long, found, takes.once, settles) refl

  pub apart_walk : (id : Text) (h : Held) (word name : Text) → IsOption word name None → arg_by_long s.rules name ≡ Some (filled (valued_rule id))
      → walked s.rules [] (walk_at h idle) word ≡ walk_at (held (settled_rows s.rules h.pending h.rows) (Some (id, [])) h.skip) (option id)
  unfolding walked
  apart_walk id h word name is found = rw (is.no_end, is.long, found) refl

  pub flag_turn : (id : Text) (h : Held) (word name : Text) → IsOption word name None → arg_by_long s.rules name ≡ Some (filled (flag_rule id)) → settle_fault s.rules false h ≡ []
      → (b : Bool) → has_row id (settled_rows s.rules h.pending h.rows) ≡ b → turn_fault s [] (walk_at h idle) word ≡ cond b (kind.ArgumentConflict ∷ []) []
  flag_turn id h word name is found settles true has = rw (is.no_end, is.long, found, takes.once, settles, has) refl
  flag_turn id h word name is found settles false has = rw (is.no_end, is.long, found, takes.once, settles, has) refl

  pub flag_walk : (id : Text) (h : Held) (word name : Text) → IsOption word name None → arg_by_long s.rules name ≡ Some (filled (flag_rule id))
      → walked s.rules [] (walk_at h idle) word ≡ walk_at (held (used (filled (flag_rule id)) [] (settled_rows s.rules h.pending h.rows)) None h.skip) idle
  unfolding walked
  flag_walk id h word name is found = rw (is.no_end, is.long, found) refl

  pub valued_flag_turn : (id : Text) (h : Held) (word name value : Text) → IsOption word name (Some value) → arg_by_long s.rules name ≡ Some (filled (flag_rule id))
      → turn_fault s [] (walk_at h idle) word ≡ kind.TooManyValues ∷ []
  valued_flag_turn id h word name value is found = rw (is.no_end, is.long, found) refl

  pub unknown_turn : (h : Held) (word name : Text) (value : Option Text) → IsOption word name value → arg_by_long s.rules name ≡ None
      → turn_fault s [] (walk_at h idle) word ≡ kind.UnknownArgument ∷ []
  unknown_turn h word name value is found = rw (is.no_end, is.long, found) refl

  pub plain_turn : (h : Held) (word : Text) → IsPlain word → turn_fault s [] (walk_at h idle) word ≡ kind.UnknownArgument ∷ []
  plain_turn h word is = rw (is.no_end, is.long, is.short, takes.no_positional, takes.leaf) refl

  -- ---- a word that is the value of an option

  pub value_turn : (id : Text) (rows : List Row) (skip : ℕ) (word : Text) → IsPlain word → turn_fault s [] (walk_at (held rows (Some (id, [])) skip) (option id)) word ≡ []
  value_turn id rows skip word is = rw (is.no_end, is.long, is.short) refl

  -- ---- what is pending isn't taken: each way on is refused

  long_turn : (h : Held) (waiting : Waiting) (word name : Text) (value : Option Text) → IsOption word name value
      → turn_fault s [] (walk_at h waiting) word ≡ or_else (long_fault s.rules s.args_override_self (arg_by_long s.rules name) value h)
      (step_fault s 1 (long_word s.rules waiting word name value h).0 (long_word s.rules waiting word name value h).1)
  long_turn h idle word name value is = rw (is.no_end, is.long) refl
  long_turn h (option id) word name value is = rw (is.no_end, is.long) refl
  long_turn h positional word name value is = rw (is.no_end, is.long) refl

  long_refused : (h : Held) (name : Text) (value : Option Text) → Meaning s name → (k : ErrorKind) (ks : Kinds) → settle_fault s.rules false h ≡ k ∷ ks
      → fails (long_fault s.rules s.args_override_self (arg_by_long s.rules name) value h) ≡ true
  long_refused h name (Some value) (of_valued id found) k ks settles = rw (found, takes.once, settles) refl
  long_refused h name None (of_valued id found) k ks settles = rw (found, takes.once, settles) refl
  long_refused h name (Some value) (of_flag id found) k ks settles = rw found refl
  long_refused h name None (of_flag id found) k ks settles = rw (found, takes.once, settles) refl
  long_refused h name value (of_none found) k ks settles = rw found refl

  -- the words end, and nothing is at fault
  pub all_ends : {T : Type 0} (read : List Row → Option T) (rows : List Row) (pending : Option (Text × List Text)) (skip : ℕ) → settle_fault s.rules false (held rows pending skip) ≡ []
      → defaults_fault (settled_rows s.rules pending rows) s.rules ≡ [] → check_fault s (fold with_default (settled_rows s.rules pending rows) s.rules) false ≡ []
      → verdict_of s read (walk_at (held rows pending skip) idle) [] ≡ read (fold with_default (settled_rows s.rules pending rows) s.rules)
  unfolding walk_fault
  all_ends read rows pending skip settles defaults checks = rw (takes.once, settles, defaults, checks) refl

  module _ (meaning : (name : Text) → Meaning s name) where
    pub option_refused : (h : Held) (waiting : Waiting) (word name : Text) (value : Option Text) → IsOption word name value → (k : ErrorKind) (ks : Kinds) → settle_fault s.rules false h ≡ k ∷ ks
        → fails (turn_fault s [] (walk_at h waiting) word) ≡ true
    option_refused h waiting word name value is k ks settles =
        rw (long_turn h waiting word name value is) (fails_first _ _ (long_refused h name value (meaning name) k ks settles))

    module _ {T : Type 0} (read : List Row → Option T) where
      word_refused : (h : Held) (word : Text) (words : List Text) (k : ErrorKind) (ks : Kinds) → settle_fault s.rules false h ≡ k ∷ ks → IsPlain word ⊎ OptionForm word
          → verdict_of s read (walk_at h idle) (word ∷ words) ≡ None
      word_refused h word words k ks settles (inl is) = refused_at s read (walk_at h idle) word words (ap fails (plain_turn h word is))
      word_refused h word words k ks settles (inr is) = refused_at s read (walk_at h idle) word words (option_refused h idle word is.0 is.1 is.2 k ks settles)

      -- an option given twice, at the next word or the end
      pub doomed : (words : List Text) → list_any is_stray words ≡ false → (rows : List Row) (pending : Option (Text × List Text)) (skip : ℕ) (k : ErrorKind) (ks : Kinds)
          → settle_fault s.rules false (held rows pending skip) ≡ k ∷ ks → verdict_of s read (walk_at (held rows pending skip) idle) words ≡ None
      unfolding walk_fault
      doomed [] clean rows pending skip k ks settles = rw (takes.once, settles) refl
      doomed (word ∷ words) clean rows pending skip k ks settles =
          word_refused (held rows pending skip) word words k ks settles (classify word (or_parts (is_stray word) (list_any is_stray words) clean).0)
