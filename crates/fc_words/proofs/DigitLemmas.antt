-- A number, digit by digit, and as a whole.
use Rattle.std.proofs.Common.{◌≡◌, ℕ, ◌+◌, ◌*◌, ◌^◌, ◌<◌, ◌≤◌, Bool, true, false, ◌&&◌, cond, ltb, ltb-true, List, [], ◌∷◌, length, drop, drop-cons, get_or, Option, Some, None, refl, arith, lit<}
use Rattle.std.specs.Char.{digit_value, is_digit}
use Rattle.std.specs.List.{list_all}
use Rattle.std.specs.Option.{option_and_then}
use Rattle.std.specs.Str.Parse.{digits_value_after}
use Rattle.std.proofs.lemmas.List.{at_drop_all}
use Rattle.std.proofs.lemmas.Bool.{ltb-false, le-ltb}
use Rattle.std.proofs.lemmas.Bool.Decides.{nat_tests}
use Rattle.fc_words.specs.Digits.{pushed}
use Rattle.fc_words.specs.Values.{number_in, is_numeral}

-- all digits, one after the other
abbrev pub pushed_all : ℕ → List ℕ → Option ℕ
pushed_all value [] = Some value
pushed_all value (byte ∷ word) = option_and_then (λ next. pushed_all next word) (pushed value byte)

-- the number of digits behind a number, below a limit
abbrev pub below : ℕ → ℕ → List ℕ → Option ℕ
below limit value word = cond (list_all (λ byte. is_digit byte 10) word && ltb (digits_value_after 10 value word) limit) (Some (digits_value_after 10 value word)) None

-- digits behind a number don't make it less
digits_after-le : (value : ℕ) (word : List ℕ) → value ≤ digits_value_after 10 value word
digits_after-le value [] = omega arith
digits_after-le value (byte ∷ word) = omega (arith, digits_after-le (value * 10 + digit_value byte) word)

pushed_more : (F : ℕ → Option ℕ) (d l a m : Bool) (next after : ℕ) → (d ≡ true → l ≡ true → F next ≡ cond (a && m) (Some after) None) → (l ≡ false → m ≡ false) → option_and_then F (cond (d && l) (Some next) None) ≡ cond ((d && a) && m) (Some after) None
pushed_more F false l a m next after more over = refl
pushed_more F true true a m next after more over = more refl refl
pushed_more F true false false m next after more over = refl
pushed_more F true false true m next after more over = rw (over refl) refl

-- reading digit by digit gives the number of the digits
pub pushed_all-below : (value : ℕ) (word : List ℕ) → value < 2 ^ 32 → pushed_all value word ≡ below (2 ^ 32) value word
pushed_all-below value [] small = grind (arith, nat_tests)
pushed_all-below value (byte ∷ word) small =
    let next : ℕ = value * 10 + digit_value byte in
    let more : is_digit byte 10 ≡ true → ltb next (2 ^ 32) ≡ true → pushed_all next word ≡ below (2 ^ 32) next word = λ d l. pushed_all-below next word (ltb-true _ _ l) in
    let over : ltb next (2 ^ 32) ≡ false → ltb (digits_value_after 10 next word) (2 ^ 32) ≡ false = λ l. le-ltb _ _ (omega (arith, digits_after-le next word, ltb-false next (2 ^ 32) l)) in
    pushed_more (λ v. pushed_all v word) (is_digit byte 10) (ltb next (2 ^ 32)) (list_all (λ b. is_digit b 10) word) (ltb (digits_value_after 10 next word) (2 ^ 32)) next (digits_value_after 10 next word) more over

-- a word that isn't empty, read so, is its number
pub pushed_all-number : (word : List ℕ) → 0 < length word → pushed_all 0 word ≡ number_in word
pushed_all-number [] some = absurd (omega arith)
pushed_all-number (byte ∷ word) some = pushed_all-below 0 (byte ∷ word) (lit< tt)

-- behind the last digit the number stands
pub pushed_all-end : (value i : ℕ) (word : List ℕ) → length word ≤ i → pushed_all value (drop i word) ≡ Some value
pushed_all-end value i word past = at_drop_all (pushed_all value) word i past

-- a byte that can't be pushed ends the reading
pub pushed_all-stop : (value i : ℕ) (word : List ℕ) → i < length word → pushed value (get_or word i 0) ≡ None → pushed_all value (drop i word) ≡ None
pushed_all-stop value i word within stop = rw (drop-cons word i 0 within) (rw stop refl)

-- a word that isn't empty is a numeral where all its bytes are digits
pub is_numeral-all : (word : List ℕ) → 0 < length word → is_numeral word ≡ list_all (λ b. is_digit b 10) word
is_numeral-all [] some = absurd (omega arith)
is_numeral-all (byte ∷ word) some = refl
