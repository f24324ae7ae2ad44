-- A word that isn't stray begins with no hyphen, or has the form of an option; a stray one is read as no option. Of any grammar
-- that reads the word of an option by what follows its two hyphens.
use Rattle.std.proofs.Common.{◌≡◌, ℕ, ◌==◌, Bool, true, false, not, ◌&&◌, ◌||◌, List, [], ◌∷◌, Bor, Option, Some, None, map, option_and_then, refl, sym, true≢false, inl, inr, ◌⊎◌}
use Rattle.std.specs.List.{before_first, list_any}
use Rattle.std.specs.Str.{bytes_eq}
use Rattle.clap.specs.Lexer.{long_of, short_of}
use Rattle.clap.specs.Words.{Text}
use Rattle.clap.proofs.WalkLemmas.{list_any-map}
use Rattle.fc_args.specs.Grammar.{after_hyphens, begins_with_hyphen, joined_value}
use Rattle.fc_args.specs.Program.{is_stray}

-- `--name` or `--name=value`
pub record IsOption (word name : Text) (value : Option Text) : Type 0 where
  pub text : Text
  pub no_end : bytes_eq word (45 ∷ 45 ∷ []) ≡ false
  pub long : long_of word ≡ Some (name, value)
  pub after : after_hyphens word ≡ Some text
  pub name_is : before_first (λ byte. byte == 61) text ≡ name
  pub value_is : joined_value text ≡ value
  pub hyphen : begins_with_hyphen word ≡ true

-- no hyphen begins the word, so it is no option
pub record IsPlain (word : Text) : Type 0 where
  pub no_end : bytes_eq word (45 ∷ 45 ∷ []) ≡ false
  pub long : long_of word ≡ None
  pub short : short_of word ≡ None
  pub after : after_hyphens word ≡ None
  pub hyphen : begins_with_hyphen word ≡ false

pub plain_word : (word : Text) → begins_with_hyphen word ≡ false → IsPlain word
plain_word [] none = record { no_end = refl; long = refl; short = refl; after = refl; hyphen = refl }
plain_word (a ∷ []) none = record { no_end = rw none refl; long = rw none refl; short = rw none refl; after = refl; hyphen = none }
plain_word (a ∷ b ∷ rest) none = record { no_end = rw none refl; long = rw none refl; short = rw none refl; after = rw none refl; hyphen = none }

abbrev pub OptionForm : Text → Type 0
OptionForm word = (name : Text) × (value : Option Text) × IsOption word name value

option_word : (a b c : ℕ) (rest : Text) → (a == 45) ≡ true → (b == 45) ≡ true → OptionForm (a ∷ b ∷ c ∷ rest)
option_word a b c rest first second = (
  before_first (λ byte. byte == 61) (c ∷ rest),
  joined_value (c ∷ rest),
  record {
    text = c ∷ rest;
    no_end = rw (first, second) refl;
    long = rw (first, second) refl;
    after = rw (first, second) refl;
    name_is = refl;
    value_is = refl;
    hyphen = first;
  },
)

pub classify : (word : Text) → is_stray word ≡ false → IsPlain word ⊎ OptionForm word
classify [] clean = inl (plain_word [] refl)
classify (a ∷ []) clean = inl (plain_word (a ∷ []) clean)
classify (a ∷ b ∷ []) clean = inl (plain_word (a ∷ b ∷ []) clean)
classify (a ∷ b ∷ c ∷ rest) clean = go (a == 45) (b == 45) refl refl clean
  where
    go : (x y : Bool) → (a == 45) ≡ x → (b == 45) ≡ y → (x && not y) ≡ false → IsPlain (a ∷ b ∷ c ∷ rest) ⊎ OptionForm (a ∷ b ∷ c ∷ rest)
    go true true ea eb clean = inr (option_word a b c rest ea eb)
    go true false ea eb clean = absurd (true≢false clean)
    go false y ea eb clean = inl (plain_word (a ∷ b ∷ c ∷ rest) ea)

-- two tests that fail
pub or_parts : (a b : Bool) → (a || b) ≡ false → (a ≡ false) × (b ≡ false)
or_parts true b e = absurd (true≢false e)
or_parts false b e = (refl, e)

-- ---- stray words

pub stray_hyphen : (word : Text) → is_stray word ≡ true → begins_with_hyphen word ≡ true
stray_hyphen [] e = e
stray_hyphen (a ∷ []) e = e
stray_hyphen (a ∷ b ∷ []) e = e
stray_hyphen (a ∷ b ∷ c ∷ rest) e = go (a == 45) e
  where
    go : (x : Bool) → (x && not (b == 45)) ≡ true → x ≡ true
    go true e = refl
    go false e = e

-- read as no option by a grammar that has none without a name
pub stray_option : {O : Type 0} (read : Option Text → O) → read (Some []) ≡ read None → (word : Text) → is_stray word ≡ true → read (after_hyphens word) ≡ read None
stray_option read nameless [] e = refl
stray_option read nameless (a ∷ []) e = refl
stray_option read nameless (a ∷ b ∷ []) e = go (a == 45) (b == 45) refl refl
  where
    go : (x y : Bool) → (a == 45) ≡ x → (b == 45) ≡ y → read (after_hyphens (a ∷ b ∷ [])) ≡ read None
    go true true ea eb = rw (ea, eb) nameless
    go true false ea eb = rw (ea, eb) refl
    go false y ea eb = rw ea refl
stray_option read nameless (a ∷ b ∷ c ∷ rest) e = go (a == 45) (b == 45) refl refl e
  where
    go : (x y : Bool) → (a == 45) ≡ x → (b == 45) ≡ y → (x && not y) ≡ true → read (after_hyphens (a ∷ b ∷ c ∷ rest)) ≡ read None
    go true true ea eb e = absurd (true≢false (sym e))
    go true false ea eb e = rw (ea, eb) refl
    go false y ea eb e = absurd (true≢false (sym e))

pub none_after : {A B : Type 0} (f : A → Option B) → ((a : A) → f a ≡ None) → (o : Option A) → option_and_then f o ≡ None
none_after f fails None = refl
none_after f fails (Some a) = fails a

-- words of which one is stray, where every state refuses a stray word, and goes on behind any other
module _ {S W T : Type 0} (after : S → W → List Text → Option T)
    (stops : (word : Text) (words : List Text) → is_stray word ≡ true → (state : S) (waiting : W) → after state waiting (word ∷ words) ≡ None)
    (goes_on : (word : Text) (words : List Text) → ((state : S) (waiting : W) → after state waiting words ≡ None) → (state : S) (waiting : W) → after state waiting (word ∷ words) ≡ None) where
  first_or_later : (word : Text) (words : List Text) → (b : Bool) → is_stray word ≡ b → (b || list_any is_stray words) ≡ true
      → (list_any is_stray words ≡ true → (state : S) (waiting : W) → after state waiting words ≡ None) → (state : S) (waiting : W) → after state waiting (word ∷ words) ≡ None
  first_or_later word words true is e later state waiting = stops word words is state waiting
  first_or_later word words false is e later state waiting = goes_on word words (later e) state waiting

  pub stray_fails : (words : List Text) → list_any is_stray words ≡ true → (state : S) (waiting : W) → after state waiting words ≡ None
  stray_fails [] e state waiting = absurd (true≢false (sym e))
  stray_fails (word ∷ words) e state waiting = first_or_later word words (is_stray word) refl e (stray_fails words) state waiting

-- ---- the words of a call

abbrev pub texts : List (Bor (List ℕ)) → List Text
texts = map (λ word. word.now)

pub strays_are : (words : List (Bor (List ℕ))) → list_any is_stray (texts words) ≡ list_any (λ word. is_stray word.now) words
strays_are words = sym (list_any-map is_stray (λ (word : Bor (List ℕ)). word.now) words)
