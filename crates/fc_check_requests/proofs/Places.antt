-- The place of the first item that passes a test.
use Rattle.std.proofs.Common.{◌≡◌, ℕ, suc, ◌+◌, ◌≤◌, ◌<◌, Bool, true, false, not, cond, nat_lt, Option, Some, None, List, [], ◌∷◌, ◌++◌, length, length-append, refl, sym, ap, ◌∙◌, arith}
use Rattle.std.specs.List.{position, position_or_len}
use Rattle.std.proofs.lemmas.Bool.{cond_below}
use Rattle.std.proofs.lemmas.Bool.Decides.{nat_tests}

place_by : (m l n : ℕ) (inside : Bool) → nat_lt m l ≡ inside → cond inside (Some m) None ≡ Some n → (n ≡ m) × (m < l)
place_by m l n true test is =
    let same : m ≡ n = cc is in
    (sym same, grind (arith, nat_tests, test))
place_by m l n false test is = absurd (cc is)

none_by : (m l : ℕ) (inside : Bool) → nat_lt m l ≡ inside → ◌≡◌ {A = Option ℕ} (cond inside (Some m) None) None → l ≤ m
none_by m l true test is = absurd (cc is)
none_by m l false test is = grind (arith, nat_tests, test)

kept_by : (here : Bool) (m m' l : ℕ) → (m < l → m' ≡ m) → cond (not here) (1 + m) 0 < suc l → cond (not here) (1 + m') 0 ≡ cond (not here) (1 + m) 0
kept_by true m m' l more lt = refl
kept_by false m m' l more lt =
    let same : m' ≡ m = more (omega (arith, lt)) in
    ap (λ k. 1 + k) same

module _ {X : Type 0} (p : X → Bool) where
  pub place_is : (xs : List X) (n : ℕ) → position p xs ≡ Some n → (n ≡ position_or_len p xs) × (position_or_len p xs < length xs)
  place_is xs n is = place_by (position_or_len p xs) (length xs) n (nat_lt (position_or_len p xs) (length xs)) refl is

  pub place_none : (xs : List X) → position p xs ≡ None → length xs ≤ position_or_len p xs
  place_none xs is = none_by (position_or_len p xs) (length xs) (nat_lt (position_or_len p xs) (length xs)) refl is

  pub place_there : (xs : List X) → position_or_len p xs < length xs → position p xs ≡ Some (position_or_len p xs)
  place_there xs inside = sym (cond_below (position_or_len p xs) (length xs) (Some (position_or_len p xs)) None inside)

  first_kept : (xs ys : List X) → position_or_len p xs < length xs → position_or_len p (xs ++ ys) ≡ position_or_len p xs
  first_kept [] ys lt = absurd (omega (arith, lt))
  first_kept (x ∷ xs) ys lt = kept_by (p x) (position_or_len p xs) (position_or_len p (xs ++ ys)) (length xs) (λ l. first_kept xs ys l) lt

  -- It stays where more come behind.
  pub place_kept : (xs ys : List X) (n : ℕ) → position p xs ≡ Some n → position p (xs ++ ys) ≡ Some n
  place_kept xs ys n is =
      let at : (n ≡ position_or_len p xs) × (position_or_len p xs < length xs) = place_is xs n is in
      let first : position_or_len p (xs ++ ys) ≡ position_or_len p xs = first_kept xs ys at.1 in
      let inside : position_or_len p (xs ++ ys) < length (xs ++ ys) = omega (arith, first, at.1, length-append xs ys) in
      let same : position_or_len p (xs ++ ys) ≡ n = first ∙ sym at.0 in
      place_there (xs ++ ys) inside ∙ ap Some same
