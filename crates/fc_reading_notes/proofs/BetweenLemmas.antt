-- Numbers between two bounds are read exactly.
use Rattle.std.proofs.Common.{◌≡◌, ℕ, zero, suc, ◌+◌, ◌*◌, ◌-◌, ◌/◌, ◌%◌, ◌^◌, ◌<◌, ◌≤◌, ◌==◌, Bool, true, false, ◌&&◌, ◌||◌, cond, nat_le, nat_lt, List, [], ◌∷◌, ◌++◌, length, decimal, Ok, Err, refl, sym, ap, subst, ◌∙◌, append_assoc, arith, inl, inr}
use Rattle.std.specs.Prelude.{◌⊎◌}
use Rattle.std.proofs.lemmas.Bool.{false≢true, cases_lt}
use Rattle.std.proofs.lemmas.Bool.Decides.{nat_tests}
use Rattle.std.proofs.lemmas.List.{append-nil}
use Rattle.std.proofs.lemmas.Fmt.{decimal_by_steps, decimal_digit, decimal_step}
use Rattle.fc_reading.specs.Readers.{is_decimal}
use Rattle.fc_reading_notes.specs.Between.{between_at, between_from, ended, is_begun, may_begin, may_go_on, reaches}
use Rattle.fc_reading.proofs.Exact.{Ends, Exact, SameStart, Stops, Takes, err_is, ok_is, ok_no_err}
use Rattle.fc_reading.proofs.Numbers.{cases}
use Rattle.fc_reading.proofs.Words.{at_false, at_true, both}

-- ---- numbers that begin with some digits

le_of : (a b : ℕ) → nat_le a b ≡ true → a ≤ b
le_of a b h = grind (arith, nat_tests)

of_le : (a b : ℕ) → a ≤ b → nat_le a b ≡ true
of_le a b h = grind (arith, nat_tests)

some_of : (a b : Bool) → a || b ≡ true → (a ≡ true) ⊎ (b ≡ true)
some_of true b h = inl refl
some_of false b h = inr h

and_true : (a b : Bool) → a ≡ true → b ≡ true → a && b ≡ true
and_true a b x y = rw (x, y) refl

or_left : (a b : Bool) → a ≡ true → a || b ≡ true
or_left a b x = rw x refl

or_right : (a b : Bool) → b ≡ true → a || b ≡ true
or_right true b x = refl
or_right false b x = x

pub reach_parts :
    (digits least most low high : ℕ) → reaches (suc digits) least most low high ≡ true →
    (low ≤ most) × ((least ≤ high) ⊎ (reaches digits least most (low * 10) (high * 10 + 9) ≡ true))
unfolding reaches
reach_parts digits least most low high h =
    let parts = both (nat_le low most) (nat_le least high || reaches digits least most (low * 10) (high * 10 + 9)) h in (
      le_of low most parts.0,
      elim (some_of (nat_le least high) (reaches digits least most (low * 10) (high * 10 + 9)) parts.1) [
        | inl here ↦ inl (le_of least high here)
        | inr more ↦ inr more
      ],
    )

pub reach_here : (digits least most low high : ℕ) → low ≤ most → least ≤ high → reaches (suc digits) least most low high ≡ true
unfolding reaches
reach_here digits least most low high below above =
    and_true (nat_le low most) (nat_le least high || reaches digits least most (low * 10) (high * 10 + 9)) (of_le low most below)
    (or_left (nat_le least high) (reaches digits least most (low * 10) (high * 10 + 9)) (of_le least high above))

pub reach_more :
    (digits least most low high : ℕ) → low ≤ most → reaches digits least most (low * 10) (high * 10 + 9) ≡ true →
    reaches (suc digits) least most low high ≡ true
unfolding reaches
reach_more digits least most low high below more =
    and_true (nat_le low most) (nat_le least high || reaches digits least most (low * 10) (high * 10 + 9)) (of_le low most below)
    (or_right (nat_le least high) (reaches digits least most (low * 10) (high * 10 + 9)) more)

reach_none : (least most low high : ℕ) → reaches zero least most low high ≡ true → ⊥
unfolding reaches
reach_none least most low high h = false≢true h

-- in a wider span too
widen :
    (digits least most low high lower higher : ℕ) → lower ≤ low → high ≤ higher → reaches digits least most low high ≡ true →
    reaches digits least most lower higher ≡ true
widen zero least most low high lower higher l h r = absurd (reach_none least most low high r)
widen (suc digits) least most low high lower higher l h r =
    let parts = reach_parts digits least most low high r in
    elim parts.1 [
      | inl here ↦ reach_here digits least most lower higher (omega (arith, parts.0, l)) (omega (arith, here, h))
      | inr more ↦
          reach_more digits least most lower higher (omega (arith, parts.0, l))
          (widen digits least most (low * 10) (high * 10 + 9) (lower * 10) (higher * 10 + 9) (omega (arith, l)) (omega (arith, h)) more)
    ]

-- more digits than these are never wanted
capped :
    (digits enough least most low high : ℕ) → 1 ≤ low → most < low + enough → reaches digits least most low high ≡ true →
    reaches enough least most low high ≡ true
capped zero enough least most low high some far r = absurd (reach_none least most low high r)
capped (suc digits) zero least most low high some far r =
    let parts = reach_parts digits least most low high r in absurd (omega (arith, parts.0, far))
capped (suc digits) (suc enough) least most low high some far r =
    let parts = reach_parts digits least most low high r in
    elim parts.1 [
      | inl here ↦ reach_here enough least most low high parts.0 here
      | inr more ↦
          reach_more enough least most low high parts.0
          (capped digits enough least most (low * 10) (high * 10 + 9) (omega (arith, some)) (omega (arith, some, far)) more)
    ]

-- a number within the bounds begins with its own digits
pub begun-itself : (least most n : ℕ) → least ≤ n → n ≤ most → is_begun least most n ≡ true
begun-itself least most n low high = reach_here most least most n n high low

-- digits without the last one
begun-shorter : (least most n : ℕ) → 10 ≤ n → is_begun least most n ≡ true → is_begun least most (n / 10) ≡ true
begun-shorter least most n large r =
    let parts = reach_parts most least most n n r in
    capped (suc (suc most)) (suc most) least most (n / 10) (n / 10) (omega (arith, large)) (omega arith)
    (
    reach_more (suc most) least most (n / 10) (n / 10) (omega (arith, parts.0))
    (widen (suc most) least most n n (n / 10 * 10) (n / 10 * 10 + 9) (omega arith) (omega arith) r)
    )

pub begun-below : (least most n : ℕ) → is_begun least most n ≡ true → n ≤ most
begun-below least most n r = (reach_parts most least most n n r).0

-- the numbers from `low` to `high` begin with these digits
abbrev Spans : ℕ → ℕ → ℕ → ℕ → Type 0
Spans most value low high = (n : ℕ) → low ≤ n → n ≤ high → n ≤ most → (more : List ℕ) × (decimal n ≡ decimal value ++ more)

spans-more : (most value low high : ℕ) → most < 2 ^ 64 → 1 ≤ low → Spans most value low high → Spans most value (low * 10) (high * 10 + 9)
spans-more most value low high small some spans n l h within =
    let s = spans (n / 10) (omega (arith, l)) (omega (arith, h)) (omega (arith, within)) in (
      s.0 ++ (48 + n % 10) ∷ [],
      decimal_step n (omega (arith, l, some)) (omega (arith, within, small)) ∙ ap (λ t. t ++ (48 + n % 10) ∷ []) s.1
          ∙ append_assoc (decimal value) s.0 ((48 + n % 10) ∷ []),
    )

-- a number that begins with these digits
pub record Begun (least most value : ℕ) : Type 0 where
  pub n : ℕ
  pub low : least ≤ n
  pub high : n ≤ most
  pub more : List ℕ
  pub begins : decimal n ≡ decimal value ++ more

begun_in :
    (digits least most value low high : ℕ) → most < 2 ^ 64 → least ≤ most → 1 ≤ low → low ≤ high → Spans most value low high →
    reaches digits least most low high ≡ true → Begun least most value
begun_in zero least most value low high small ordered some span spans r = absurd (reach_none least most low high r)
begun_in (suc digits) least most value low high small ordered some span spans r =
    let parts = reach_parts digits least most low high r in
    elim parts.1 [
      | inl here ↦
          elim (cases_lt low least) [
            | inl lt ↦
                let s = spans least (omega (arith, lt)) here ordered in
                record { n = least; low = omega arith; high = ordered; more = s.0; begins = s.1 }
            | inr le ↦
                let s = spans low (omega arith) span parts.0 in
                record { n = low; low = omega (arith, le); high = parts.0; more = s.0; begins = s.1 }
          ]
      | inr more ↦
          begun_in digits least most value (low * 10) (high * 10 + 9) small ordered (omega (arith, some)) (omega (arith, span))
          (spans-more most value low high small some spans) more
    ]

spans-itself : (most value : ℕ) → Spans most value value value
spans-itself most value n l h within =
    let is : n ≡ value = omega (arith, l, h) in ([], ap decimal is ∙ sym (append-nil (decimal value)))

pub begun_of : (least most value : ℕ) → most < 2 ^ 64 → least ≤ most → 1 ≤ value → is_begun least most value ≡ true → Begun least most value
begun_of least most value small ordered some r =
    begun_in (suc most) least most value value value small ordered some (omega arith) (spans-itself most value) r

-- ---- the bytes

from_digit :
    (least most value byte : ℕ) (bytes : List ℕ) → is_decimal byte ≡ true → may_go_on least most value byte ≡ true →
    between_from least most value (byte ∷ bytes) ≡ between_from least most (value * 10 + (byte - 48)) bytes
from_digit least most value byte bytes digit goes =
    at_true (is_decimal byte) (cond (may_go_on least most value byte) (between_from least most (value * 10 + (byte - 48)) bytes) (Err (suc (length bytes)))) (ended least value (byte ∷ bytes)) digit
    ∙ at_true (may_go_on least most value byte) (between_from least most (value * 10 + (byte - 48)) bytes) (Err (suc (length bytes))) goes

from_too_far :
    (least most value byte : ℕ) (bytes : List ℕ) → is_decimal byte ≡ true → may_go_on least most value byte ≡ false →
    between_from least most value (byte ∷ bytes) ≡ Err (suc (length bytes))
from_too_far least most value byte bytes digit goes =
    at_true (is_decimal byte) (cond (may_go_on least most value byte) (between_from least most (value * 10 + (byte - 48)) bytes) (Err (suc (length bytes)))) (ended least value (byte ∷ bytes)) digit
    ∙ at_false (may_go_on least most value byte) (between_from least most (value * 10 + (byte - 48)) bytes) (Err (suc (length bytes))) goes

from_end : (least most value : ℕ) (bytes : List ℕ) → Ends is_decimal bytes → between_from least most value bytes ≡ ended least value bytes
from_end least most value [] ends = refl
from_end least most value (byte ∷ bytes) ends =
    at_false (is_decimal byte) (cond (may_go_on least most value byte) (between_from least most (value * 10 + (byte - 48)) bytes) (Err (suc (length bytes)))) (ended least value (byte ∷ bytes)) ends

at_least : (least value : ℕ) (bytes : List ℕ) → least ≤ value → ended least value bytes ≡ Ok (value, bytes)
at_least least value bytes low = at_true (nat_le least value) (Ok (value, bytes)) (Err (length bytes)) (of_le least value low)

too_low : (least value : ℕ) (bytes : List ℕ) → nat_le least value ≡ false → ended least value bytes ≡ Err (length bytes)
too_low least value bytes low = at_false (nat_le least value) (Ok (value, bytes)) (Err (length bytes)) low

digit-below : (byte : ℕ) → is_decimal byte ≡ true → byte - 48 < 10
digit-below byte h = grind (arith, nat_tests)

digit-is : (byte : ℕ) → is_decimal byte ≡ true → 48 + (byte - 48) ≡ byte
digit-is byte h = grind (arith, nat_tests)

-- behind the digits of a number its reading goes on as it began
begun-from :
    (least most : ℕ) → most < 2 ^ 64 → (n : ℕ) → n ≤ most → 1 ≤ n → is_begun least most n ≡ true →
    (rest : List ℕ) → between_at least most (decimal n ++ rest) ≡ between_from least most n rest
begun-from least most small n within some begun =
    decimal_by_steps (λ m ds. 1 ≤ m → is_begun least most m ≡ true → (rest : List ℕ) → between_at least most (ds ++ rest) ≡ between_from least most m rest)
    one more n (omega (arith, within, small)) some begun
  where
    digit_back : (m : ℕ) → (48 + m) - 48 ≡ m
    digit_back m = omega arith

    is_digit_at : (m : ℕ) → m < 10 → is_decimal (48 + m) ≡ true
    is_digit_at m digit = grind (arith, nat_tests)

    not_zero : (m : ℕ) → 1 ≤ m → (m == 0) ≡ false
    not_zero m some = grind (arith, nat_tests)

    above_zero : (m : ℕ) → 10 ≤ m → nat_lt 0 (m / 10) ≡ true
    above_zero m large = grind (arith, nat_tests)

    begins : (m : ℕ) → 1 ≤ m → is_begun least most m ≡ true → may_begin least most ((48 + m) - 48) ≡ true
    begins m some begun =
        ap (may_begin least most) (digit_back m) ∙ at_false (m == 0) (nat_le least 0) (is_begun least most m) (not_zero m some) ∙ begun

    one : (m : ℕ) → m < 10 → 1 ≤ m → is_begun least most m ≡ true → (rest : List ℕ) → between_at least most (((48 + m) ∷ []) ++ rest) ≡ between_from least most m rest
    one m digit some begun rest =
        at_true (is_decimal (48 + m) && may_begin least most ((48 + m) - 48)) (between_from least most ((48 + m) - 48) rest) (Err (suc (length rest)))
        (and_true (is_decimal (48 + m)) (may_begin least most ((48 + m) - 48)) (is_digit_at m digit) (begins m some begun))
        ∙ ap (λ k. between_from least most k rest) (digit_back m)

    is_digit_of : (m : ℕ) → is_decimal (48 + m % 10) ≡ true
    is_digit_of m = grind (arith, nat_tests)

    digits_back : (m : ℕ) → m / 10 * 10 + ((48 + m % 10) - 48) ≡ m
    digits_back m = omega arith

    goes : (m : ℕ) → 10 ≤ m → is_begun least most m ≡ true → may_go_on least most (m / 10) (48 + m % 10) ≡ true
    goes m large begun =
        and_true (nat_lt 0 (m / 10)) (is_begun least most (m / 10 * 10 + ((48 + m % 10) - 48))) (above_zero m large)
        (ap (is_begun least most) (digits_back m) ∙ begun)

    more : (m : ℕ) (ds : List ℕ) → 10 ≤ m → (1 ≤ m / 10 → is_begun least most (m / 10) ≡ true → (rest : List ℕ) → between_at least most (ds ++ rest) ≡ between_from least most (m / 10) rest) → 1 ≤ m → is_begun least most m ≡ true → (rest : List ℕ) → between_at least most ((ds ++ ((48 + m % 10) ∷ [])) ++ rest) ≡ between_from least most m rest
    more m ds large before some begun rest =
        ap (between_at least most) (append_assoc ds ((48 + m % 10) ∷ []) rest)
        ∙ before (omega (arith, large)) (begun-shorter least most m large begun) ((48 + m % 10) ∷ rest)
        ∙ from_digit least most (m / 10) (48 + m % 10) rest (is_digit_of m) (goes m large begun)
        ∙ ap (λ k. between_from least most k rest) (digits_back m)

-- ---- what is taken

abbrev pub IsBetween : ℕ → ℕ → ℕ → Type 0
IsBetween least most n = (least ≤ n) × (n ≤ most)

-- a number with one more digit
longer : (value digit next : ℕ) → 0 < value → digit < 10 → next ≡ value * 10 + digit → next < 2 ^ 64 → decimal next ≡ decimal value ++ (48 + digit) ∷ []
longer value digit next some small is below =
    let high : next / 10 ≡ value = omega (arith, is, small) in
    let low : next % 10 ≡ digit = omega (arith, is, small) in
    decimal_step next (omega (arith, is, some)) below ∙ ap (λ v. decimal v ++ (48 + next % 10) ∷ []) high ∙ ap (λ d. decimal value ++ (48 + d) ∷ []) low

lt_of : (a b : ℕ) → nat_lt a b ≡ true → a < b
lt_of a b h = grind (arith, nat_tests)

not_le : (a b : ℕ) → nat_le a b ≡ false → b < a
not_le a b h = grind (arith, nat_tests)

-- the digits of a number and one more, put before what follows
shifted :
    (least most : ℕ) → most < 2 ^ 64 → (value byte : ℕ) (bytes : List ℕ) → is_decimal byte ≡ true → may_go_on least most value byte ≡ true →
    decimal value ++ byte ∷ bytes ≡ decimal (value * 10 + (byte - 48)) ++ bytes
shifted least most small value byte bytes digit goes =
    let parts = both (nat_lt 0 value) (is_begun least most (value * 10 + (byte - 48))) goes in
    sym (append_assoc (decimal value) (byte ∷ []) bytes)
    ∙ ap (λ b. (decimal value ++ b ∷ []) ++ bytes) (sym (digit-is byte digit))
    ∙ ap (λ t. t ++ bytes)
    (
    sym
    (
    longer value (byte - 48) (value * 10 + (byte - 48)) (lt_of 0 value parts.0) (digit-below byte digit) refl
    (omega (arith, begun-below least most (value * 10 + (byte - 48)) parts.1, small))
    )
    )

-- what the reading behind a number takes
record BetweenTakes (least most value : ℕ) (bytes : List ℕ) (n : ℕ) (rest : List ℕ) : Type 0 where
  pub fits : IsBetween least most n
  pub split : decimal value ++ bytes ≡ decimal n ++ rest
  pub ends : Ends is_decimal rest

end_takes :
    (least most value : ℕ) (bytes : List ℕ) (n : ℕ) (rest : List ℕ) → value ≤ most → Ends is_decimal bytes → ended least value bytes ≡ Ok (n, rest) →
    BetweenTakes least most value bytes n rest
end_takes least most value bytes n rest within ends e =
    elim (cases (nat_le least value)) [
      | inl low ↦
          let P : ℕ × List ℕ → Type 0 = λ z. BetweenTakes least most value bytes z.0 z.1 in
          let at : P (value, bytes) = record { fits = (le_of least value low, within); split = refl; ends = ends } in
          subst P (ok_is _ _ (sym (at_least least value bytes (le_of least value low)) ∙ e)) at
      | inr low ↦ absurd (ok_no_err _ _ (sym e ∙ too_low least value bytes low))
    ]

from_takes :
    (least most : ℕ) → most < 2 ^ 64 → (value : ℕ) (bytes : List ℕ) (n : ℕ) (rest : List ℕ) → value ≤ most →
    between_from least most value bytes ≡ Ok (n, rest) → BetweenTakes least most value bytes n rest
from_takes least most small value [] n rest within e = end_takes least most value [] n rest within tt e
from_takes least most small value (byte ∷ bytes) n rest within e =
    elim (cases (is_decimal byte)) [
      | inl digit ↦
          elim (cases (may_go_on least most value byte)) [
            | inl goes ↦
                let parts = both (nat_lt 0 value) (is_begun least most (value * 10 + (byte - 48))) goes in
                let t = from_takes least most small (value * 10 + (byte - 48)) bytes n rest
                (begun-below least most (value * 10 + (byte - 48)) parts.1) (sym (from_digit least most value byte bytes digit goes) ∙ e) in
                record {
                  fits = t.fits;
                  split = shifted least most small value byte bytes digit goes ∙ t.split;
                  ends = t.ends;
                }
            | inr far ↦ absurd (ok_no_err _ _ (sym e ∙ from_too_far least most value byte bytes digit far))
          ]
      | inr other ↦
          end_takes least most value (byte ∷ bytes) n rest within other (sym (from_end least most value (byte ∷ bytes) other) ∙ e)
    ]

-- ---- where it stops

-- these digits begin a number within the bounds: some of them are read, or none yet
abbrev IsFront : ℕ → ℕ → ℕ → Type 0
IsFront least most value = ((value ≡ 0) × (least ≡ 0)) ⊎ ((1 ≤ value) × (is_begun least most value ≡ true))

record BetweenStops (least most value : ℕ) (bytes : List ℕ) (left : ℕ) : Type 0 where
  pub n : ℕ
  pub front : IsFront least most n
  pub rest : List ℕ
  pub split : decimal value ++ bytes ≡ decimal n ++ rest
  pub left_is : left ≡ length rest
  pub again : (u : List ℕ) → SameStart rest u → between_from least most n u ≡ Err (length u)

Ends-alike : (rest u : List ℕ) → SameStart rest u → Ends is_decimal rest → Ends is_decimal u
Ends-alike [] [] same ends = tt
Ends-alike [] (b ∷ u) same ends = absurd same
Ends-alike (a ∷ rest) [] same ends = absurd same
Ends-alike (a ∷ rest) (b ∷ u) same ends = ap is_decimal (sym same) ∙ ends

end_stops :
    (least most value : ℕ) (bytes : List ℕ) (left : ℕ) → IsFront least most value → Ends is_decimal bytes → ended least value bytes ≡ Err left →
    BetweenStops least most value bytes left
end_stops least most value bytes left front ends e =
    elim (cases (nat_le least value)) [
      | inl low ↦ absurd (ok_no_err _ _ (sym (at_least least value bytes (le_of least value low)) ∙ e))
      | inr low ↦ record {
        n = value;
        front = front;
        rest = bytes;
        split = refl;
        left_is = sym (err_is _ _ (sym (too_low least value bytes low) ∙ e));
        again = λ u same. from_end least most value u (Ends-alike bytes u same ends) ∙ too_low least value u low;
      }
    ]

far_again :
    (least most value byte : ℕ) (bytes u : List ℕ) → is_decimal byte ≡ true → may_go_on least most value byte ≡ false → SameStart (byte ∷ bytes) u →
    between_from least most value u ≡ Err (length u)
far_again least most value byte bytes [] digit far same = absurd same
far_again least most value byte bytes (b ∷ u) digit far same =
    from_too_far least most value b u (ap is_decimal (sym same) ∙ digit) (ap (may_go_on least most value) (sym same) ∙ far)

from_stops :
    (least most : ℕ) → most < 2 ^ 64 → (value : ℕ) (bytes : List ℕ) (left : ℕ) → IsFront least most value →
    between_from least most value bytes ≡ Err left → BetweenStops least most value bytes left
from_stops least most small value [] left front e = end_stops least most value [] left front tt e
from_stops least most small value (byte ∷ bytes) left front e =
    elim (cases (is_decimal byte)) [
      | inl digit ↦
          elim (cases (may_go_on least most value byte)) [
            | inl goes ↦
                let parts = both (nat_lt 0 value) (is_begun least most (value * 10 + (byte - 48))) goes in
                let s = from_stops least most small (value * 10 + (byte - 48)) bytes left
                (inr (omega (arith, lt_of 0 value parts.0), parts.1)) (sym (from_digit least most value byte bytes digit goes) ∙ e) in
                record {
                  n = s.n;
                  front = s.front;
                  rest = s.rest;
                  split = shifted least most small value byte bytes digit goes ∙ s.split;
                  left_is = s.left_is;
                  again = s.again;
                }
            | inr far ↦ record {
              n = value;
              front = front;
              rest = byte ∷ bytes;
              split = refl;
              left_is = sym (err_is _ _ (sym (from_too_far least most value byte bytes digit far) ∙ e));
              again = λ u same. far_again least most value byte bytes u digit far same;
            }
          ]
      | inr other ↦ end_stops least most value (byte ∷ bytes) left front other (sym (from_end least most value (byte ∷ bytes) other) ∙ e)
    ]

-- ---- the first digit

abbrev begins_here : ℕ → ℕ → ℕ → Bool
begins_here least most byte = is_decimal byte && may_begin least most (byte - 48)

first_text : (byte : ℕ) → is_decimal byte ≡ true → decimal (byte - 48) ≡ byte ∷ []
first_text byte digit = decimal_digit (byte - 48) (digit-below byte digit) ∙ ap (λ b. b ∷ []) (digit-is byte digit)

zero-text : decimal 0 ≡ 48 ∷ []
zero-text = decimal_digit 0 (omega arith)

first_front : (least most digit : ℕ) → may_begin least most digit ≡ true → IsFront least most digit
first_front least most zero h = inl (refl, omega (arith, le_of least 0 h))
first_front least most (suc d) h = inr (omega arith, sym (at_false (suc d == 0) (nat_le least 0) (is_begun least most (suc d)) (not_zero d)) ∙ h)
  where
    not_zero : (d : ℕ) → (suc d == 0) ≡ false
    not_zero d = grind (arith, nat_tests)

front_below : (least most value : ℕ) → IsFront least most value → value ≤ most
front_below least most value (inl none) = omega (arith, none.0)
front_below least most value (inr some) = begun-below least most value some.1

-- behind the digits of a front the reading goes on as it began
front_from :
    (least most : ℕ) → most < 2 ^ 64 → (n : ℕ) → IsFront least most n → (rest : List ℕ) →
    between_at least most (decimal n ++ rest) ≡ between_from least most n rest
front_from least most small n (inr some) rest = begun-from least most small n (begun-below least most n some.1) some.0 some.1 rest
front_from least most small n (inl none) rest =
    ap (λ m. between_at least most (decimal m ++ rest)) none.0 ∙ ap (λ t. between_at least most (t ++ rest)) zero-text
    ∙ at_true (begins_here least most 48) (between_from least most 0 rest) (Err (suc (length rest))) (of_le least 0 (omega (arith, none.1)))
    ∙ ap (λ m. between_from least most m rest) (sym none.0)

-- a number within the bounds that a front begins
front_of : (least most n : ℕ) → most < 2 ^ 64 → least ≤ most → IsFront least most n → Begun least most n
front_of least most n small ordered (inr some) = begun_of least most n small ordered some.0 some.1
front_of least most n small ordered (inl none) = record {
  n = n;
  low = omega (arith, none.1);
  high = omega (arith, none.0);
  more = [];
  begins = sym (append-nil (decimal n));
}

fits_front : (least most n : ℕ) → IsBetween least most n → IsFront least most n
fits_front least most zero fits = inl (refl, omega (arith, fits.0))
fits_front least most (suc n) fits = inr (omega arith, begun-itself least most (suc n) fits.0 fits.1)

-- numbers between two bounds are read exactly; a digit could join
pub Exact-between : (least most : ℕ) → most < 2 ^ 64 → least ≤ most → Exact (IsBetween least most) decimal is_decimal (between_at least most)
Exact-between least most small ordered = record {
  takes = takes;
  again = again;
  stops = stops;
}
  where
    takes : (bytes : List ℕ) (n : ℕ) (rest : List ℕ) → between_at least most bytes ≡ Ok (n, rest) → Takes (IsBetween least most) decimal is_decimal bytes n rest
    takes [] n rest e = absurd (ok_no_err _ _ (sym e))
    takes (byte ∷ bytes) n rest e =
        elim (cases (begins_here least most byte)) [
          | inl goes ↦
              let parts = both (is_decimal byte) (may_begin least most (byte - 48)) goes in
              let t = from_takes least most small (byte - 48) bytes n rest
              (front_below least most (byte - 48) (first_front least most (byte - 48) parts.1))
              (sym (at_true (begins_here least most byte) (between_from least most (byte - 48) bytes) (Err (suc (length bytes))) goes) ∙ e) in
              record { fits = t.fits; split = ap (λ t. t ++ bytes) (sym (first_text byte parts.0)) ∙ t.split; ends = t.ends }
          | inr other ↦
              absurd (ok_no_err _ _ (sym e ∙ at_false (begins_here least most byte) (between_from least most (byte - 48) bytes) (Err (suc (length bytes))) other))
        ]

    again : (n : ℕ) (rest : List ℕ) → IsBetween least most n → Ends is_decimal rest → between_at least most (decimal n ++ rest) ≡ Ok (n, rest)
    again n rest fits ends =
        front_from least most small n (fits_front least most n fits) rest ∙ from_end least most n rest ends ∙ at_least least n rest fits.0

    first_again : (byte : ℕ) (bytes u : List ℕ) → begins_here least most byte ≡ false → SameStart (byte ∷ bytes) u → between_at least most u ≡ Err (length u)
    first_again byte bytes [] other same = absurd same
    first_again byte bytes (b ∷ u) other same =
        at_false (begins_here least most b) (between_from least most (b - 48) u) (Err (suc (length u))) (ap (begins_here least most) (sym same) ∙ other)

    none_again : (u : List ℕ) → SameStart [] u → between_at least most u ≡ Err (length u)
    none_again [] same = refl
    none_again (b ∷ u) same = absurd same

    stops : (bytes : List ℕ) (left : ℕ) → between_at least most bytes ≡ Err left → Stops (IsBetween least most) decimal (between_at least most) bytes left
    stops [] left e = record {
      front = [];
      rest = [];
      split = refl;
      left_is = sym (err_is _ _ e);
      value = least;
      fits = (omega arith, ordered);
      more = decimal least;
      begins = refl;
      again = λ u same. none_again u same;
    }
    stops (byte ∷ bytes) left e =
        elim (cases (begins_here least most byte)) [
          | inl goes ↦
              let parts = both (is_decimal byte) (may_begin least most (byte - 48)) goes in
              let s = from_stops least most small (byte - 48) bytes left (first_front least most (byte - 48) parts.1)
              (sym (at_true (begins_here least most byte) (between_from least most (byte - 48) bytes) (Err (suc (length bytes))) goes) ∙ e) in
              let b = front_of least most s.n small ordered s.front in
              record {
                front = decimal s.n;
                rest = s.rest;
                split = ap (λ t. t ++ bytes) (sym (first_text byte parts.0)) ∙ s.split;
                left_is = s.left_is;
                value = b.n;
                fits = (b.low, b.high);
                more = b.more;
                begins = b.begins;
                again = λ u same. front_from least most small s.n s.front u ∙ s.again u same;
              }
          | inr other ↦ record {
            front = [];
            rest = byte ∷ bytes;
            split = refl;
            left_is = sym (err_is _ _ (sym (at_false (begins_here least most byte) (between_from least most (byte - 48) bytes) (Err (suc (length bytes))) other) ∙ e));
            value = least;
            fits = (omega arith, ordered);
            more = decimal least;
            begins = refl;
            again = λ u same. first_again byte bytes u other same;
          }
        ]
