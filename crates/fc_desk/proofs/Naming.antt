-- A short name and a number behind it are a name.
use Rattle.std.proofs.Common.{◌≡◌, ◌∙◌, ap, ℕ, zero, suc, ◌+◌, ◌/◌, ◌%◌, ◌^◌, ◌<◌, ◌≤◌, Bool, true, false, ◌&&◌, ◌||◌, nat_le, nat_lt, List, [], ◌∷◌, ◌++◌, length, decimal, arith, refl, length-append}
use Rattle.std.specs.List.{list_all}
use Rattle.std.proofs.lemmas.Fmt.{decimal_step, decimal_digit, length-decimal-le}
use Rattle.std.proofs.lemmas.Bool.{le-leb, ltb-true, ltb-false, or_left, or_right}
use Rattle.std.proofs.lemmas.List.Folds.{list_all-append}
use Rattle.fc_base.specs.Names.{is_name, starts_name, continues_name}

both : (a b : Bool) → a ≡ true → b ≡ true → (a && b) ≡ true
both a b p q = rw p q

first_of_both : (a b : Bool) → (a && b) ≡ true → a ≡ true
first_of_both true b e = refl
first_of_both false b e = e

second_of_both : (a b : Bool) → (a && b) ≡ true → b ≡ true
second_of_both true b e = e
second_of_both false b e = grind (arith, e)

middle_true : (a m y z : Bool) → m ≡ true → (((a || m) || y) || z) ≡ true
middle_true a m y z e = or_left ((a || m) || y) z (or_left (a || m) y (or_right a m e))

digit_continues : (d : ℕ) → d < 10 → continues_name (48 + d) ≡ true
digit_continues d lt =
    middle_true (starts_name (48 + d)) (nat_le 48 (48 + d) && nat_le (48 + d) 57) _ _
    (both (nat_le 48 (48 + d)) (nat_le (48 + d) 57) (le-leb 48 (48 + d) (omega arith)) (le-leb (48 + d) 57 (omega (arith, lt))))

one_digit : (n : ℕ) → n < 10 → list_all continues_name (decimal n) ≡ true
one_digit n lt = ap (list_all continues_name) (decimal_digit n lt) ∙ both (continues_name (48 + n)) true (digit_continues n lt) refl

more_digits : (n : ℕ) → 10 ≤ n → n < 2 ^ 64 → list_all continues_name (decimal (n / 10)) ≡ true → list_all continues_name (decimal n) ≡ true
more_digits n le small front =
    ap (list_all continues_name) (decimal_step n le small)
    ∙ list_all-append continues_name (decimal (n / 10)) ((48 + n % 10) ∷ [])
    ∙ both (list_all continues_name (decimal (n / 10))) (list_all continues_name ((48 + n % 10) ∷ [])) front
    (both (continues_name (48 + n % 10)) true (digit_continues (n % 10) (omega arith)) refl)

by_size : (n : ℕ) (b : Bool) → (b ≡ true → n < 10) → (b ≡ false → 10 ≤ n) → (10 ≤ n → list_all continues_name (decimal (n / 10)) ≡ true) → n < 2 ^ 64 → list_all continues_name (decimal n) ≡ true
by_size n true below above front small = one_digit n (below refl)
by_size n false below above front small = more_digits n (above refl) small (front (above refl))

all_continue : (k n : ℕ) → n < k → n < 2 ^ 64 → list_all continues_name (decimal n) ≡ true
all_continue zero n lt small = absurd (omega (arith, lt))
all_continue (suc k) n lt small =
    by_size n (nat_lt n 10) (λ e. ltb-true n 10 e) (λ e. ltb-false n 10 e)
    (λ le. all_continue k (n / 10) (omega (arith, le, lt)) (omega (arith, small))) small

pub is_name-numbered : (front : List ℕ) (n : ℕ) → is_name front ≡ true → length front ≤ 20 → n < 2 ^ 32 → is_name (front ++ decimal n) ≡ true
is_name-numbered [] n e short small = grind (arith, e)
is_name-numbered (first ∷ rest) n e short small =
    let good = second_of_both (nat_le (length rest) 62) (starts_name first && list_all continues_name rest) e in
    let few : length (decimal n) ≤ 10 = length-decimal-le 10 n (omega arith) (omega (arith, small)) (omega (arith, small)) in
    let size : length (rest ++ decimal n) ≡ length rest + length (decimal n) = length-append rest (decimal n) in
    both (nat_le (length (rest ++ decimal n)) 62) (starts_name first && list_all continues_name (rest ++ decimal n))
    (le-leb (length (rest ++ decimal n)) 62 (omega (arith, few, size, short)))
    (both (starts_name first) (list_all continues_name (rest ++ decimal n)) (first_of_both (starts_name first) (list_all continues_name rest) good)
    (list_all-append continues_name rest (decimal n)
    ∙ both (list_all continues_name rest) (list_all continues_name (decimal n)) (second_of_both (starts_name first) (list_all continues_name rest) good)
    (all_continue (suc n) n (omega arith) (omega (arith, small)))))
