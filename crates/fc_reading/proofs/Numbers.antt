-- Numbers in decimal, up to a greatest one.
use Rattle.std.proofs.Common.{◌≡◌, ℕ, suc, ◌+◌, ◌*◌, ◌-◌, ◌/◌, ◌%◌, ◌^◌, ◌<◌, ◌≤◌, Bool, true, false, ◌&&◌, cond, nat_le, List, [], ◌∷◌, ◌++◌, length, decimal, Ok, Err, refl, sym, ap, subst, ◌∙◌, append_assoc, arith, inl, inr}
use Rattle.std.specs.Prelude.{◌⊎◌}
use Rattle.std.proofs.lemmas.Bool.Decides.{nat_tests}
use Rattle.std.proofs.lemmas.List.{append-nil}
use Rattle.std.proofs.lemmas.Fmt.{decimal_by_steps, decimal_digit, decimal_step}
use Rattle.fc_reading.specs.Readers.{goes_on, is_decimal, number_at, number_from}
use Rattle.fc_reading.proofs.Exact.{Ends, Exact, SameStart, Stops, Takes, err_is, ok_is, ok_no_err}
use Rattle.fc_reading.proofs.Words.{at_false, at_true, both}

-- a number with one more digit
decimal-more : (value digit next : ℕ) → 0 < value → digit < 10 → next ≡ value * 10 + digit → next < 2 ^ 64 → decimal next ≡ decimal value ++ (48 + digit) ∷ []
decimal-more value digit next some small is below =
    let high : next / 10 ≡ value = omega (arith, is, small) in
    let low : next % 10 ≡ digit = omega (arith, is, small) in
    decimal_step next (omega (arith, is, some)) below ∙ ap (λ v. decimal v ++ (48 + next % 10) ∷ []) high ∙ ap (λ d. decimal value ++ (48 + d) ∷ []) low

-- whether or not
pub cases : (t : Bool) → (t ≡ true) ⊎ (t ≡ false)
cases true = inl refl
cases false = inr refl

pub from_digit : (most value byte : ℕ) (bytes : List ℕ) → is_decimal byte ≡ true → goes_on most value byte ≡ true → number_from most value (byte ∷ bytes) ≡ number_from most (value * 10 + (byte - 48)) bytes
from_digit most value byte bytes digit goes =
    at_true (is_decimal byte) (cond (goes_on most value byte) (number_from most (value * 10 + (byte - 48)) bytes) (Err (suc (length bytes)))) (Ok (value, byte ∷ bytes)) digit
    ∙ at_true (goes_on most value byte) (number_from most (value * 10 + (byte - 48)) bytes) (Err (suc (length bytes))) goes

pub from_too_far : (most value byte : ℕ) (bytes : List ℕ) → is_decimal byte ≡ true → goes_on most value byte ≡ false → number_from most value (byte ∷ bytes) ≡ Err (suc (length bytes))
from_too_far most value byte bytes digit goes =
    at_true (is_decimal byte) (cond (goes_on most value byte) (number_from most (value * 10 + (byte - 48)) bytes) (Err (suc (length bytes)))) (Ok (value, byte ∷ bytes)) digit
    ∙ at_false (goes_on most value byte) (number_from most (value * 10 + (byte - 48)) bytes) (Err (suc (length bytes))) goes

pub from_end : (most value byte : ℕ) (bytes : List ℕ) → is_decimal byte ≡ false → number_from most value (byte ∷ bytes) ≡ Ok (value, byte ∷ bytes)
from_end most value byte bytes digit =
    at_false (is_decimal byte) (cond (goes_on most value byte) (number_from most (value * 10 + (byte - 48)) bytes) (Err (suc (length bytes)))) (Ok (value, byte ∷ bytes)) digit

digit-below : (byte : ℕ) → is_decimal byte ≡ true → byte - 48 < 10
digit-below byte h = grind (arith, nat_tests)

digit-is : (byte : ℕ) → is_decimal byte ≡ true → 48 + (byte - 48) ≡ byte
digit-is byte h = grind (arith, nat_tests)

goes_on-some : (most value byte : ℕ) → goes_on most value byte ≡ true → 0 < value
goes_on-some most value byte h = grind (arith, nat_tests)

goes_on-below : (most value byte : ℕ) → goes_on most value byte ≡ true → value * 10 + (byte - 48) ≤ most
goes_on-below most value byte h = grind (arith, nat_tests)

-- what is split behind the number with one more digit is so split behind the number
split_more : (most value byte : ℕ) (bytes : List ℕ) (n : ℕ) (rest : List ℕ) → most < 2 ^ 64 → is_decimal byte ≡ true → goes_on most value byte ≡ true →
    decimal (value * 10 + (byte - 48)) ++ bytes ≡ decimal n ++ rest → decimal value ++ byte ∷ bytes ≡ decimal n ++ rest
split_more most value byte bytes n rest small digit goes split =
    let next : ℕ = value * 10 + (byte - 48) in
    let below : next ≤ most = goes_on-below most value byte goes in
    sym (append_assoc (decimal value) (byte ∷ []) bytes)
    ∙ ap (λ b. (decimal value ++ b ∷ []) ++ bytes) (sym (digit-is byte digit))
    ∙ ap (λ t. t ++ bytes) (sym (decimal-more value (byte - 48) next (goes_on-some most value byte goes) (digit-below byte digit) refl (omega (arith, below, small))))
    ∙ split

-- behind the digits of a number its reading goes on as it began
decimal-from : (most : ℕ) → most < 2 ^ 64 → (n : ℕ) → n < 2 ^ 64 → n ≤ most → (rest : List ℕ) → number_at most (decimal n ++ rest) ≡ number_from most n rest
decimal-from most small n below fits =
    decimal_by_steps (λ m ds. m ≤ most → (rest : List ℕ) → number_at most (ds ++ rest) ≡ number_from most m rest) one more n below fits
  where
    one_digit : (m : ℕ) → m < 10 → m ≤ most → is_decimal (48 + m) && nat_le ((48 + m) - 48) most ≡ true
    one_digit m digit within = grind (arith, nat_tests)

    digit_back : (m : ℕ) → (48 + m) - 48 ≡ m
    digit_back m = omega arith

    one : (m : ℕ) → m < 10 → m ≤ most → (rest : List ℕ) → number_at most (((48 + m) ∷ []) ++ rest) ≡ number_from most m rest
    one m digit within rest =
        at_true (is_decimal (48 + m) && nat_le ((48 + m) - 48) most) (number_from most ((48 + m) - 48) rest) (Err (suc (length rest))) (one_digit m digit within)
        ∙ ap (λ k. number_from most k rest) (digit_back m)

    is_digit_of : (m : ℕ) → is_decimal (48 + m % 10) ≡ true
    is_digit_of m = grind (arith, nat_tests)

    digits_back : (m : ℕ) → m / 10 * 10 + ((48 + m % 10) - 48) ≡ m
    digits_back m = omega arith

    goes : (m : ℕ) → 10 ≤ m → m ≤ most → goes_on most (m / 10) (48 + m % 10) ≡ true
    goes m large within = grind (arith, nat_tests)

    more : (m : ℕ) (ds : List ℕ) → 10 ≤ m → (m / 10 ≤ most → (rest : List ℕ) → number_at most (ds ++ rest) ≡ number_from most (m / 10) rest) → m ≤ most → (rest : List ℕ) → number_at most ((ds ++ ((48 + m % 10) ∷ [])) ++ rest) ≡ number_from most m rest
    more m ds large before within rest =
        ap (number_at most) (append_assoc ds ((48 + m % 10) ∷ []) rest)
        ∙ before (omega (arith, within)) ((48 + m % 10) ∷ rest)
        ∙ from_digit most (m / 10) (48 + m % 10) rest (is_digit_of m) (goes m large within)
        ∙ ap (λ k. number_from most k rest) (digits_back m)

-- what the reading behind a number takes
pub record NumberTakes (most value : ℕ) (bytes : List ℕ) (n : ℕ) (rest : List ℕ) : Type 0 where
  pub fits : n ≤ most
  pub split : decimal value ++ bytes ≡ decimal n ++ rest
  pub ends : Ends is_decimal rest

from_takes : (most : ℕ) → most < 2 ^ 64 → (value : ℕ) (bytes : List ℕ) (n : ℕ) (rest : List ℕ) → value ≤ most → number_from most value bytes ≡ Ok (n, rest) → NumberTakes most value bytes n rest
from_takes most small value [] n rest within e =
    let P : ℕ × List ℕ → Type 0 = λ z. NumberTakes most value [] z.0 z.1 in
    let at : P (value, []) = record { fits = within; split = refl; ends = tt } in
    subst P (ok_is _ _ e) at
from_takes most small value (byte ∷ bytes) n rest within e =
    elim (cases (is_decimal byte)) [
      | inl digit ↦
          elim (cases (goes_on most value byte)) [
            | inl goes ↦
                let next : ℕ = value * 10 + (byte - 48) in
                let below : next ≤ most = goes_on-below most value byte goes in
                let t = from_takes most small next bytes n rest below (sym (from_digit most value byte bytes digit goes) ∙ e) in
                record {
                  fits = t.fits;
                  split = split_more most value byte bytes n rest small digit goes t.split;
                  ends = t.ends;
                }
            | inr far ↦ absurd (ok_no_err _ _ (sym e ∙ from_too_far most value byte bytes digit far))
          ]
      | inr end ↦
          let P : ℕ × List ℕ → Type 0 = λ z. NumberTakes most value (byte ∷ bytes) z.0 z.1 in
          let at : P (value, byte ∷ bytes) = record { fits = within; split = refl; ends = end } in
          subst P (ok_is _ _ (sym (from_end most value byte bytes end) ∙ e)) at
    ]

-- where it stops: a digit stands behind the digits of a number that can't take it
pub record NumberStops (most value : ℕ) (bytes : List ℕ) (left : ℕ) : Type 0 where
  pub n : ℕ
  pub fits : n ≤ most
  pub byte : ℕ
  pub after : List ℕ
  pub split : decimal value ++ bytes ≡ decimal n ++ byte ∷ after
  pub left_is : left ≡ suc (length after)
  pub digit : is_decimal byte ≡ true
  pub far : goes_on most n byte ≡ false

from_stops : (most : ℕ) → most < 2 ^ 64 → (value : ℕ) (bytes : List ℕ) (left : ℕ) → value ≤ most → number_from most value bytes ≡ Err left → NumberStops most value bytes left
from_stops most small value [] left within e = absurd (ok_no_err _ _ e)
from_stops most small value (byte ∷ bytes) left within e =
    elim (cases (is_decimal byte)) [
      | inl digit ↦
          elim (cases (goes_on most value byte)) [
            | inl goes ↦
                let next : ℕ = value * 10 + (byte - 48) in
                let below : next ≤ most = goes_on-below most value byte goes in
                let s = from_stops most small next bytes left below (sym (from_digit most value byte bytes digit goes) ∙ e) in
                record {
                  n = s.n;
                  fits = s.fits;
                  byte = s.byte;
                  after = s.after;
                  split = split_more most value byte bytes s.n (s.byte ∷ s.after) small digit goes s.split;
                  left_is = s.left_is;
                  digit = s.digit;
                  far = s.far;
                }
            | inr far ↦ record {
              n = value;
              fits = within;
              byte = byte;
              after = bytes;
              split = refl;
              left_is = sym (err_is _ _ (sym (from_too_far most value byte bytes digit far) ∙ e));
              digit = digit;
              far = far;
            }
          ]
      | inr end ↦ absurd (ok_no_err _ _ (sym (from_end most value byte bytes end) ∙ e))
    ]

-- the first digit
abbrev pub begins_number : ℕ → ℕ → Bool
begins_number most byte = is_decimal byte && nat_le (byte - 48) most

first_digit : (most byte : ℕ) → begins_number most byte ≡ true → decimal (byte - 48) ≡ byte ∷ []
first_digit most byte h =
    let parts = both (is_decimal byte) (nat_le (byte - 48) most) h in
    decimal_digit (byte - 48) (digit-below byte parts.0) ∙ ap (λ b. b ∷ []) (digit-is byte parts.0)

first_within : (most byte : ℕ) → begins_number most byte ≡ true → byte - 48 ≤ most
first_within most byte h = grind (arith, nat_tests)

zero-text : decimal 0 ≡ 48 ∷ []
zero-text = decimal_digit 0 (omega arith)

abbrev pub IsUpTo : ℕ → ℕ → Type 0
IsUpTo most n = n ≤ most

-- numbers are read exactly; a digit could join
pub Exact-number : (most : ℕ) → most < 2 ^ 64 → Exact (IsUpTo most) decimal is_decimal (number_at most)
Exact-number most small = record {
  takes = takes;
  again = again;
  stops = stops;
}
  where
    takes : (bytes : List ℕ) (n : ℕ) (rest : List ℕ) → number_at most bytes ≡ Ok (n, rest) → Takes (IsUpTo most) decimal is_decimal bytes n rest
    takes [] n rest e = absurd (ok_no_err _ _ (sym e))
    takes (byte ∷ bytes) n rest e =
        elim (cases (begins_number most byte)) [
          | inl digit ↦
              let t = from_takes most small (byte - 48) bytes n rest (first_within most byte digit)
              (sym (at_true (begins_number most byte) (number_from most (byte - 48) bytes) (Err (suc (length bytes))) digit) ∙ e) in
              record { fits = t.fits; split = ap (λ t. t ++ bytes) (sym (first_digit most byte digit)) ∙ t.split; ends = t.ends }
          | inr other ↦
              absurd (ok_no_err _ _ (sym e ∙ at_false (begins_number most byte) (number_from most (byte - 48) bytes) (Err (suc (length bytes))) other))
        ]

    at_end : (n : ℕ) (rest : List ℕ) → Ends is_decimal rest → number_from most n rest ≡ Ok (n, rest)
    at_end n [] ends = refl
    at_end n (byte ∷ bytes) ends = from_end most n byte bytes ends

    again : (n : ℕ) (rest : List ℕ) → IsUpTo most n → Ends is_decimal rest → number_at most (decimal n ++ rest) ≡ Ok (n, rest)
    again n rest fits ends = decimal-from most small n (omega (arith, small, fits)) fits rest ∙ at_end n rest ends

    far_again : (n : ℕ) (byte : ℕ) (after u : List ℕ) → n ≤ most → is_decimal byte ≡ true → goes_on most n byte ≡ false → SameStart (byte ∷ after) u → number_at most (decimal n ++ u) ≡ Err (length u)
    far_again n byte after [] fits digit far same = absurd same
    far_again n byte after (b ∷ u) fits digit far same =
        decimal-from most small n (omega (arith, small, fits)) fits (b ∷ u)
        ∙ from_too_far most n b u (ap is_decimal (sym same) ∙ digit) (ap (goes_on most n) (sym same) ∙ far)

    first_again : (byte : ℕ) (bytes u : List ℕ) → begins_number most byte ≡ false → SameStart (byte ∷ bytes) u → number_at most u ≡ Err (length u)
    first_again byte bytes [] other same = absurd same
    first_again byte bytes (b ∷ u) other same =
        at_false (begins_number most b) (number_from most (b - 48) u) (Err (suc (length u))) (ap (begins_number most) (sym same) ∙ other)

    none_again : (u : List ℕ) → SameStart [] u → number_at most u ≡ Err (length u)
    none_again [] same = refl
    none_again (b ∷ u) same = absurd same

    stops : (bytes : List ℕ) (left : ℕ) → number_at most bytes ≡ Err left → Stops (IsUpTo most) decimal (number_at most) bytes left
    stops [] left e = record {
      front = [];
      rest = [];
      split = refl;
      left_is = sym (err_is _ _ e);
      value = 0;
      fits = omega arith;
      more = decimal 0;
      begins = refl;
      again = λ u same. none_again u same;
    }
    stops (byte ∷ bytes) left e =
        elim (cases (begins_number most byte)) [
          | inl digit ↦
              let s = from_stops most small (byte - 48) bytes left (first_within most byte digit)
              (sym (at_true (begins_number most byte) (number_from most (byte - 48) bytes) (Err (suc (length bytes))) digit) ∙ e) in
              record {
                front = decimal s.n;
                rest = s.byte ∷ s.after;
                split = ap (λ t. t ++ bytes) (sym (first_digit most byte digit)) ∙ s.split;
                left_is = s.left_is;
                value = s.n;
                fits = s.fits;
                more = [];
                begins = sym (append-nil (decimal s.n));
                again = λ u same. far_again s.n s.byte s.after u s.fits s.digit s.far same;
              }
          | inr other ↦ record {
            front = [];
            rest = byte ∷ bytes;
            split = refl;
            left_is = sym (err_is _ _ (sym (at_false (begins_number most byte) (number_from most (byte - 48) bytes) (Err (suc (length bytes))) other) ∙ e));
            value = 0;
            fits = omega arith;
            more = decimal 0;
            begins = refl;
            again = λ u same. first_again byte bytes u other same;
          }
        ]
