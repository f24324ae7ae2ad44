-- The least number of which something holds, class by class of remainders.
use Rattle.std.proofs.Common.{◌≡◌, ◌≢◌, ◌⊎◌, inl, inr, ℕ, ◌+◌, ◌*◌, ◌/◌, ◌%◌, ◌<◌, ◌≤◌, Bool, true, false, cond, ◌&&◌, ◌||◌, eqb, Option, Some, None, refl, sym, ap, ◌∙◌, arith}
use Rattle.std.specs.Prelude.{nat_lt, option_map}
use Rattle.std.proofs.lemmas.Bool.{cases_eq, cases_lt, and_from, and_left, and_right, or_from, or_left, or_right, ltb-true, ltb-false, lt-ltb, le-ltb, eq-eqb, eqb-true, false_from_ne_true}
use Rattle.std.proofs.lemmas.Nat.{div-add-mod', mod-mul-add, mod_below}
use Rattle.fc_base.specs.Column.{first_below}
use Rattle.fc_moves.proofs.Search.{IsFirst, first_none, first_some, first_is, first_is_none}

-- ---- first of all

-- The first number below a bound that passes a test, if there is one.
abbrev pub FirstOf : (ℕ → Bool) → ℕ → Option ℕ → Type 0
FirstOf test n None = (j : ℕ) → j < n → test j ≡ false
FirstOf test n (Some k) = IsFirst test n k

pub first_of : (test : ℕ → Bool) (n : ℕ) (o : Option ℕ) → first_below test n ≡ o → FirstOf test n o
first_of test n None e = first_none test n e
first_of test n (Some k) e = first_some test n k e

pub is_first_of : (test : ℕ → Bool) (n : ℕ) (o : Option ℕ) → FirstOf test n o → first_below test n ≡ o
is_first_of test n None first = first_is_none test n first
is_first_of test n (Some k) first = first_is test n k first

-- The lesser of two, either of which may be missing.
abbrev pub lesser_of : Option ℕ → Option ℕ → Option ℕ
lesser_of None b = b
lesser_of (Some a) None = Some a
lesser_of (Some a) (Some b) = cond (nat_lt b a) (Some b) (Some a)

-- The first that passes one of two tests.
pub first_of_both :
    (test p q : ℕ → Bool) (n : ℕ) (a b : Option ℕ) →
    ((j : ℕ) → test j ≡ (p j || q j)) →
    FirstOf p n a →
    FirstOf q n b →
    FirstOf test n (lesser_of a b)
first_of_both test p q n None None either first second = λ j lt. either j ∙ or_from (p j) (q j) (first j lt) (second j lt)
first_of_both test p q n (Some x) None either first second = record {
  below = first.below;
  passes = either x ∙ or_left (p x) (q x) first.passes;
  first = λ j lt. either j ∙ or_from (p j) (q j) (first.first j lt) (second j (omega (arith, lt, first.below)));
}
first_of_both test p q n None (Some y) either first second = record {
  below = second.below;
  passes = either y ∙ or_right (p y) (q y) second.passes;
  first = λ j lt. either j ∙ or_from (p j) (q j) (first j (omega (arith, lt, second.below))) (second.first j lt);
}
first_of_both test p q n (Some x) (Some y) either first second = by (nat_lt y x) refl
  where
    by : (less : Bool) → nat_lt y x ≡ less → FirstOf test n (cond less (Some y) (Some x))
    by true e =
        let lt : y < x = ltb-true y x e in
        record {
          below = second.below;
          passes = either y ∙ or_right (p y) (q y) second.passes;
          first = λ j less. either j ∙ or_from (p j) (q j) (first.first j (omega (arith, less, lt))) (second.first j less);
        }
    by false e =
        let le : x ≤ y = ltb-false y x e in
        record {
          below = first.below;
          passes = either x ∙ or_left (p x) (q x) first.passes;
          first = λ j less. either j ∙ or_from (p j) (q j) (first.first j less) (second.first j (omega (arith, less, le)));
        }

-- ---- remainders

-- The numbers below a bound that leave this remainder, by their places: those before the count of them.
pub record AreCounted (n i bound count : ℕ) : Type 0 where
  pub inside : (p : ℕ) → p < count → p * n + i < bound
  pub outside : (p : ℕ) → p * n + i < bound → p < count

pub first_of_remainder :
    (test : ℕ → Bool) (n i bound count : ℕ) (o : Option ℕ) →
    i < n →
    AreCounted n i bound count →
    FirstOf (λ p. test (p * n + i)) count o →
    FirstOf (λ j. test j && eqb (j % n) i) bound (option_map (λ p. p * n + i) o)
first_of_remainder test n i bound count None below counted first = λ j lt. by j lt (cases_eq (j % n) i)
  where
    by : (j : ℕ) → j < bound → (j % n ≡ i) ⊎ (j % n ≢ i) → (test j && eqb (j % n) i) ≡ false
    by j lt (inl same) =
        let is : j / n * n + i ≡ j = ap (λ z. j / n * n + z) (sym same) ∙ div-add-mod' j n in
        and_left (test j) (eqb (j % n) i) (ap test (sym is) ∙ first (j / n) (counted.outside (j / n) (omega (arith, is, lt))))
    by j lt (inr other) = and_right (test j) (eqb (j % n) i) (false_from_ne_true (eqb (j % n) i) (λ q. other (eqb-true (j % n) i q)))
first_of_remainder test n i bound count (Some p) below counted first = record {
  below = counted.inside p first.below;
  passes = and_from (test (p * n + i)) (eqb ((p * n + i) % n) i) first.passes (eq-eqb ((p * n + i) % n) i (mod-mul-add p n i below));
  first = λ j lt. by j lt (cases_eq (j % n) i);
}
  where
    -- the places rise with the numbers
    before : (a b : ℕ) → a * n + i < b * n + i → a < b
    before a b lt = grind (arith, lt)

    by : (j : ℕ) → j < p * n + i → (j % n ≡ i) ⊎ (j % n ≢ i) → (test j && eqb (j % n) i) ≡ false
    by j lt (inl same) =
        let is : j / n * n + i ≡ j = ap (λ z. j / n * n + z) (sym same) ∙ div-add-mod' j n in
        and_left (test j) (eqb (j % n) i) (ap test (sym is) ∙ first.first (j / n) (before (j / n) p (omega (arith, is, lt))))
    by j lt (inr other) = and_right (test j) (eqb (j % n) i) (false_from_ne_true (eqb (j % n) i) (λ q. other (eqb-true (j % n) i q)))

-- ---- class by class

-- Of the numbers that leave one of the first remainders.
abbrev pub among : (ℕ → Bool) → ℕ → ℕ → ℕ → Bool
among test n k j = test j && nat_lt (j % n) k

one_remainder_more : (a : Bool) (r k : ℕ) → (a && nat_lt r (k + 1)) ≡ ((a && nat_lt r k) || (a && eqb r k))
one_remainder_more false r k = refl
one_remainder_more true r k = by (cases_lt r k)
  where
    known : (a b c : Bool) → a ≡ true → b ≡ true → a ≡ (b || c)
    known a b c e q = e ∙ sym (or_left b c q)

    by : (r < k) ⊎ (k ≤ r) → nat_lt r (k + 1) ≡ (nat_lt r k || eqb r k)
    by (inl lt) = known (nat_lt r (k + 1)) (nat_lt r k) (eqb r k) (lt-ltb r (k + 1) (omega (arith, lt))) (lt-ltb r k lt)
    by (inr le) = past (cases_eq r k)
      where
        past : (r ≡ k) ⊎ (r ≢ k) → nat_lt r (k + 1) ≡ (nat_lt r k || eqb r k)
        past (inl same) =
            let now : nat_lt r (k + 1) ≡ true = lt-ltb r (k + 1) (omega (arith, same)) in
            now ∙ sym (or_right (nat_lt r k) (eqb r k) (eq-eqb r k same))
        past (inr other) =
            let now : nat_lt r (k + 1) ≡ false = le-ltb r (k + 1) (omega (arith, le, other)) in
            now ∙ sym (or_from (nat_lt r k) (eqb r k) (le-ltb r k le) (false_from_ne_true (eqb r k) (λ q. other (eqb-true r k q))))

-- With one remainder more the first is the lesser of what it was and the first that leaves that remainder.
pub first_among_more :
    (test : ℕ → Bool) (n k bound count : ℕ) →
    k < n →
    AreCounted n k bound count →
    first_below (among test n (k + 1)) bound
    ≡ lesser_of (first_below (among test n k) bound) (option_map (λ p. p * n + k) (first_below (λ p. test (p * n + k)) count))
first_among_more test n k bound count below counted =
    is_first_of (among test n (k + 1)) bound _
    (first_of_both (among test n (k + 1)) (among test n k) (λ j. test j && eqb (j % n) k) bound (first_below (among test n k) bound)
    (option_map (λ p. p * n + k) (first_below (λ p. test (p * n + k)) count))
    (λ j. one_remainder_more (test j) (j % n) k)
    (first_of (among test n k) bound (first_below (among test n k) bound) refl)
    (first_of_remainder test n k bound count (first_below (λ p. test (p * n + k)) count) below counted (first_of (λ p. test (p * n + k)) count (first_below (λ p. test (p * n + k)) count) refl)))

-- With no remainder there is none, and with all of them it is the first of all.
pub first_among_none : (test : ℕ → Bool) (n bound : ℕ) → first_below (among test n 0) bound ≡ None
first_among_none test n bound = first_is_none (among test n 0) bound (λ j lt. and_right (test j) (nat_lt (j % n) 0) (le-ltb (j % n) 0 (omega arith)))

pub first_among_all : (test : ℕ → Bool) (n bound : ℕ) → 0 < n → first_below (among test n n) bound ≡ first_below test bound
first_among_all test n bound some =
    is_first_of (among test n n) bound (first_below test bound)
    (same (first_below test bound) (first_of test bound (first_below test bound) refl))
  where
    each : (j : ℕ) → among test n n j ≡ test j
    each j = by (test j)
      where
        within : nat_lt (j % n) n ≡ true
        within = lt-ltb (j % n) n (mod_below j n some)

        by : (b : Bool) → (b && nat_lt (j % n) n) ≡ b
        by true = within
        by false = refl

    same : (o : Option ℕ) → FirstOf test bound o → FirstOf (among test n n) bound o
    same None first = λ j lt. each j ∙ first j lt
    same (Some k) first = record { below = first.below; passes = each k ∙ first.passes; first = λ j lt. each j ∙ first.first j lt }
