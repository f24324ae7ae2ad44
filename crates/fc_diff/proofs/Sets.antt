-- Sets of grains that are made of a test.
use Rattle.std.proofs.Common.{◌≡◌, ℕ, ◌<◌, Bool, true, false, ◌&&◌, not, List, length, set, replicate, get_or, nat_eq, refl, ap, sym, ◌∙◌, arith}
use Rattle.std.proofs.lemmas.List.{length-replicate, length-set, same_lists, get_or-replicate, get_or-set_same, get_or-set_other}
use Rattle.std.proofs.lemmas.List.FromFn.{get_or-map-range_with_len, length-map-range_with_len}
use Rattle.std.proofs.lemmas.Bool.Decides.{nat_tests}
use Rattle.std.proofs.lemmas.Simd.{get_or-zip2, length-zip2}
use Rattle.fc_bits.specs.Grains.{common}
use Rattle.fc_changed.specs.Notes.{has, grains_with}

pub length-grains_with : (test : ℕ → Bool) (n : ℕ) → length (grains_with test n) ≡ n
length-grains_with test n = length-map-range_with_len test 0 n

pub get_or-grains_with : (test : ℕ → Bool) (n g : ℕ) (d : Bool) → g < n → get_or (grains_with test n) g d ≡ test g
get_or-grains_with test n g d within = get_or-map-range_with_len test 0 n g g d within (omega arith)

-- only the grains below the size count
pub grains_same : (n : ℕ) (p q : ℕ → Bool) → ((g : ℕ) → g < n → p g ≡ q g) → grains_with p n ≡ grains_with q n
grains_same n p q same =
    same_lists (grains_with p n) (grains_with q n) (length-grains_with p n ∙ sym (length-grains_with q n))
    (λ g d within. let below : g < n = rw (sym (length-grains_with p n)) within in
    get_or-grains_with p n g d below ∙ (same g below ∙ sym (get_or-grains_with q n g d below)))

pub grains_all : (n k : ℕ) (p : ℕ → Bool) (b : Bool) → n ≡ k → ((g : ℕ) → p g ≡ b) → grains_with p n ≡ replicate k b
grains_all n k p b e all =
    same_lists (grains_with p n) (replicate k b) (length-grains_with p n ∙ (e ∙ sym (length-replicate k b)))
    (λ g d within. let below : g < n = rw (sym (length-grains_with p n)) within in
    get_or-grains_with p n g d below ∙ (all g ∙ sym (get_or-replicate k g b d (rw (sym e) below))))

eq_here : (g h : ℕ) → nat_eq g h ≡ true → g ≡ h
eq_here g h e = grind (arith, nat_tests)

eq_away : (g h : ℕ) → nat_eq g h ≡ false → g ≡ h → ⊥
eq_away g h e same = grind (arith, nat_tests)

-- one grain less
pub grains_cleared : (n h : ℕ) (p : ℕ → Bool) → grains_with (λ g. p g && not (nat_eq g h)) n ≡ set (grains_with p n) h false
grains_cleared n h p =
    same_lists (grains_with (λ g. p g && not (nat_eq g h)) n) (set (grains_with p n) h false)
    (length-grains_with (λ g. p g && not (nat_eq g h)) n ∙ (sym (length-grains_with p n) ∙ sym (length-set (grains_with p n) h false)))
    (λ g d within. let below : g < n = rw (sym (length-grains_with (λ j. p j && not (nat_eq j h)) n)) within in
    get_or-grains_with (λ j. p j && not (nat_eq j h)) n g d below ∙ by g d below (nat_eq g h) refl)
  where
    and_false : (b : Bool) → (b && false) ≡ false
    and_false true = refl
    and_false false = refl

    and_true : (b : Bool) → (b && true) ≡ b
    and_true true = refl
    and_true false = refl

    by : (g : ℕ) (d : Bool) → g < n → (b : Bool) → nat_eq g h ≡ b → (p g && not (nat_eq g h)) ≡ get_or (set (grains_with p n) h false) g d
    by g d below true e =
        let inside : g < length (grains_with p n) = rw length-grains_with below in
        ap (λ z. p g && not z) e ∙ (and_false (p g) ∙ (sym (get_or-set_same (grains_with p n) g false d inside) ∙ ap (λ z. get_or (set (grains_with p n) z false) g d) (eq_here g h e)))
    by g d below false e =
        ap (λ z. p g && not z) e ∙ (and_true (p g) ∙ (sym (get_or-grains_with p n g d below) ∙ sym (get_or-set_other (grains_with p n) h g false d (eq_away g h e))))

-- what two sets have both
pub common_is : (same held : List Bool) → length same ≡ length held → common same held ≡ grains_with (λ g. has same g && has held g) (length same)
common_is same held e =
    same_lists (common same held) (grains_with (λ g. has same g && has held g) (length same))
    (length-zip2 (λ x y. x && y) same held e ∙ sym (length-grains_with (λ g. has same g && has held g) (length same)))
    (λ g d within. let below : g < length same = rw (sym (length-zip2 (λ x y. x && y) same held e)) within in
    get_or-zip2 (λ x y. x && y) same held g false false d below (omega arith) ∙ sym (get_or-grains_with (λ j. has same j && has held j) (length same) g d below))

-- kept twice
pub kept_twice : (same held : List Bool) → grains_with (λ g. has (grains_with (λ j. has same j && has held j) (length same)) g && has held g) (length (grains_with (λ j. has same j && has held j) (length same))) ≡ grains_with (λ g. has same g && has held g) (length same)
kept_twice same held =
    ap (grains_with (λ g. has (grains_with (λ j. has same j && has held j) (length same)) g && has held g)) (length-grains_with (λ j. has same j && has held j) (length same))
    ∙ grains_same (length same) (λ g. has (grains_with (λ j. has same j && has held j) (length same)) g && has held g) (λ g. has same g && has held g)
    (λ g below. ap (λ z. z && has held g) (get_or-grains_with (λ j. has same j && has held j) (length same) g false below) ∙ twice (has same g) (has held g))
  where
    twice : (a b : Bool) → ((a && b) && b) ≡ (a && b)
    twice true true = refl
    twice true false = refl
    twice false b = refl
