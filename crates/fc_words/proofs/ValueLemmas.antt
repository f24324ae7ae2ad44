-- Values, read back from their canonical words.
use Rattle.std.proofs.Common.{◌≡◌, ℕ, ◌+◌, ◌*◌, ◌/◌, ◌%◌, ◌^◌, ◌<◌, ◌≤◌, Bool, true, false, ◌&&◌, nat_le, eqb, List, [], ◌∷◌, length, Some, Ok, decimal, refl, ap, ◌∙◌, arith}
use Rattle.std.specs.Char.{digit_value, is_digit}
use Rattle.std.specs.Fmt.{digit_glyph}
use Rattle.std.specs.List.{list_all}
use Rattle.std.specs.Str.Parse.{AllDigits, digits_value}
use Rattle.std.proofs.lemmas.Bool.{lt-ltb, false≢true}
use Rattle.std.proofs.lemmas.Bool.Decides.{nat_tests}
use Rattle.std.proofs.lemmas.Fmt.{decimal_is_IsNumeral}
use Rattle.fc_base.specs.CommandText.{byte_word, ref_word}
use Rattle.fc_base.specs.Names.{starts_name, continues_name, is_name}
use Rattle.fc_base.specs.declared.name.Ref.{Ref}
use Rattle.fc_base.specs.declared.name.Ref.TheVariants.{Id, Name}
use Rattle.fc_words.specs.Canonical.{IsObject}
use Rattle.fc_words.specs.Lines.{begins_with}
use Rattle.fc_words.specs.Values.{number_in, is_numeral, byte_of, delim_of, name_of, ref_at}
use Rattle.fc_words.specs.Words.{is_blank}

-- both of two tests
pub both : (a b : Bool) → a && b ≡ true → (a ≡ true) × (b ≡ true)
both true b h = (refl, h)
both false b h = absurd (false≢true h)

-- what holds of each byte, where another test does
pub list_all-weaker : (p q : ℕ → Bool) → ((b : ℕ) → p b ≡ true → q b ≡ true) → (bytes : List ℕ) → list_all p bytes ≡ true → list_all q bytes ≡ true
list_all-weaker p q weaker [] all = refl
list_all-weaker p q weaker (b ∷ bytes) all =
    let parts = both (p b) (list_all p bytes) all in
    rw (weaker b parts.0) (list_all-weaker p q weaker bytes parts.1)

-- decimal digits, as a test
list_all-digits : (ds : List ℕ) → AllDigits 10 ds → list_all (λ b. is_digit b 10) ds ≡ true
list_all-digits [] all = refl
list_all-digits (d ∷ ds) all = rw (lt-ltb (digit_value d) 10 all.0) (list_all-digits ds all.1)

pub digit-no_blank : (b : ℕ) → is_digit b 10 ≡ true → is_blank b ≡ false
digit-no_blank b h = grind (arith, nat_tests)

digit-no_dash : (b : ℕ) → is_digit b 10 ≡ true → eqb b 45 ≡ false
digit-no_dash b h = grind (arith, nat_tests)

start-no_dash : (b : ℕ) → starts_name b ≡ true → eqb b 45 ≡ false
start-no_dash b h = grind (arith, nat_tests)

start-no_digit : (b : ℕ) → starts_name b ≡ true → is_digit b 10 ≡ false
start-no_digit b h = grind (arith, nat_tests)

pub name-no_blank : (b : ℕ) → continues_name b ≡ true → is_blank b ≡ false
name-no_blank b h = grind (arith, nat_tests)

glyph-value : (d : ℕ) → d < 16 → digit_value (digit_glyph false d) ≡ d
glyph-value d h = grind (arith, nat_tests)

glyph-no_dash : (d : ℕ) → d < 16 → eqb (digit_glyph false d) 45 ≡ false
glyph-no_dash d h = grind (arith, nat_tests)

pub glyph-no_blank : (d : ℕ) → d < 16 → is_blank (digit_glyph false d) ≡ false
glyph-no_blank d h = grind (arith, nat_tests)

pub printable-no_blank : (b : ℕ) → 33 ≤ b → is_blank b ≡ false
printable-no_blank b h = grind (arith, nat_tests)

pub delim_of-printable : (b : ℕ) → 33 ≤ b → b ≤ 126 → delim_of (b ∷ []) ≡ Some b
delim_of-printable b low high = grind (arith, nat_tests)

-- a number's word
pub number-all : (n : ℕ) → n < 2 ^ 32 → list_all (λ b. is_digit b 10) (decimal n) ≡ true
number-all n small = list_all-digits (decimal n) (decimal_is_IsNumeral n (omega arith)).0.1

numeral-all : (word : List ℕ) → 0 < length word → list_all (λ b. is_digit b 10) word ≡ true → is_numeral word ≡ true
numeral-all [] some all = absurd (omega arith)
numeral-all (b ∷ word) some all = all

pub is_numeral-decimal : (n : ℕ) → n < 2 ^ 32 → is_numeral (decimal n) ≡ true
is_numeral-decimal n small =
    numeral-all (decimal n) (decimal_is_IsNumeral n (omega arith)).0.0 (number-all n small)

number_at : (word : List ℕ) (n : ℕ) → is_numeral word ≡ true → digits_value 10 word ≡ n → n < 2 ^ 32 → number_in word ≡ Some n
number_at word n numeral value small = rw (numeral, value, lt-ltb n (2 ^ 32) small) refl

pub number_in-decimal : (n : ℕ) → n < 2 ^ 32 → number_in (decimal n) ≡ Some n
number_in-decimal n small =
    number_at (decimal n) n (is_numeral-decimal n small) (decimal_is_IsNumeral n (omega arith)).1 small

-- it is no option
dash-digits : (word : List ℕ) → list_all (λ b. is_digit b 10) word ≡ true → begins_with 45 word ≡ false
dash-digits [] all = refl
dash-digits (b ∷ word) all = digit-no_dash b (both (is_digit b 10) (list_all (λ b. is_digit b 10) word) all).0

pub begins_with-decimal : (n : ℕ) → n < 2 ^ 32 → begins_with 45 (decimal n) ≡ false
begins_with-decimal n small = dash-digits (decimal n) (number-all n small)

-- a name's word
name-starts : (b : ℕ) (name : List ℕ) → is_name (b ∷ name) ≡ true → starts_name b ≡ true
name-starts b name good =
    (both (starts_name b) (list_all continues_name name) (both (nat_le (length name) 62) (starts_name b && list_all continues_name name) good).1).0

pub begins_with-name : (name : List ℕ) → is_name name ≡ true → begins_with 45 name ≡ false
begins_with-name [] good = refl
begins_with-name (b ∷ name) good = start-no_dash b (name-starts b name good)

pub is_numeral-name : (name : List ℕ) → is_name name ≡ true → is_numeral name ≡ false
is_numeral-name [] good = refl
is_numeral-name (b ∷ name) good = rw (start-no_digit b (name-starts b name good)) refl

pub name_of-name : (name : List ℕ) → is_name name ≡ true → name_of name ≡ Some name
name_of-name name good = rw good refl

-- an object's word
pub ref_at-word : (at : ℕ) (ref : Ref) → IsObject ref → ref_at at (ref_word ref) ≡ Ok ref
ref_at-word at (Id id) good = rw (number_in-decimal id good, is_numeral-decimal id good) refl
ref_at-word at (Name name) good = rw (is_numeral-name name good, name_of-name name good) refl

pub begins_with-ref : (ref : Ref) → IsObject ref → begins_with 45 (ref_word ref) ≡ false
begins_with-ref (Id id) good = begins_with-decimal id good
begins_with-ref (Name name) good = begins_with-name name good

-- a byte's word
byte_parts : (high low : ℕ) → high < 16 → low < 16 → byte_of (digit_glyph false high ∷ digit_glyph false low ∷ []) ≡ Some (16 * high + low)
byte_parts high low h l =
    rw (glyph-value high h, glyph-value low l, lt-ltb high 16 h, lt-ltb low 16 l) refl

pub byte_of-word : (byte : ℕ) → byte < 256 → byte_of (byte_word byte) ≡ Some byte
byte_of-word byte small =
    byte_parts (byte / 16) (byte % 16) (omega arith) (omega arith) ∙ ap (λ b. Some b) (omega arith)

pub begins_with-byte : (byte : ℕ) → byte < 256 → begins_with 45 (byte_word byte) ≡ false
begins_with-byte byte small = glyph-no_dash (byte / 16) (omega arith)
