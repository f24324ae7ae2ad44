-- Places in a list, and in the list of its keys.
use Rattle.std.proofs.Common.{◌≡◌, ℕ, suc, ◌+◌, ◌<◌, ◌≤◌, Bool, true, false, not, ◌||◌, cond, List, [], ◌∷◌, ◌++◌, map, length, find, position, slice_get, Option, Some, None, refl, ap, sym, subst, ◌∙◌, arith, append-nil, take, drop, remove, set, filter, nat_eq, nat_lt, is_some, AllPairs, All, if◌then◌else◌}
use Rattle.std.specs.List.{position_or_len, prefix_len, list_any}
use Rattle.std.proofs.lemmas.List.{length-map, take_all, drop_all}
use Rattle.std.proofs.lemmas.List.Elements.{All-nil, All-cons}
use Rattle.std.proofs.lemmas.List.Folds.{find_at}
use Rattle.std.proofs.lemmas.Option.{slice_get_past}
use Rattle.std.proofs.lemmas.Bool.Decides.{nat_tests}

-- ---- The first place in a list of keys

pub prefix_len-map : {A B : Type 0} (test : B → Bool) (f : A → B) (xs : List A) → prefix_len test (map f xs) ≡ prefix_len (λ x. test (f x)) xs
prefix_len-map test f [] = refl
prefix_len-map test f (x ∷ xs) = ap (λ n. cond (test (f x)) (1 + n) 0) (prefix_len-map test f xs)

pub position-map : {A B : Type 0} (test : B → Bool) (f : A → B) (xs : List A) → position test (map f xs) ≡ position (λ x. test (f x)) xs
position-map test f xs = simp (prefix_len-map (λ x. not (test x)) f xs, length-map xs f)

pub list_any-map : {A B : Type 0} (test : B → Bool) (f : A → B) (xs : List A) → list_any test (map f xs) ≡ list_any (λ x. test (f x)) xs
list_any-map test f [] = refl
list_any-map test f (x ∷ xs) = ap (λ b. test (f x) || b) (list_any-map test f xs)

-- ---- Lists whose keys rise

differs : (a b : ℕ) → a < b → nat_eq a b ≡ false
differs a b below = grind (arith, nat_tests)

same : (a b : ℕ) → nat_eq a b ≡ true → a ≡ b
same a b equal = grind (arith, nat_tests)

remove-one_more : {X : Type 0} (x : X) (xs : List X) (n : ℕ) → x ∷ remove xs n ≡ remove (x ∷ xs) (1 + n)
remove-one_more x xs n = let e : 1 + n ≡ suc n = omega arith in rw e refl

set-one_more : {X : Type 0} (x : X) (xs : List X) (n : ℕ) (y : X) → x ∷ set xs n y ≡ set (x ∷ xs) (1 + n) y
set-one_more x xs n y = let e : 1 + n ≡ suc n = omega arith in rw e refl

module _ {X : Type 0} (key : X → ℕ) where
  abbrev pub IsAbove : ℕ → List X → Type 0
  IsAbove k [] = Unit {0}
  IsAbove k (x ∷ xs) = (k < key x) × IsAbove k xs

  abbrev pub Rises : List X → Type 0
  Rises [] = Unit {0}
  Rises (x ∷ xs) = IsAbove (key x) xs × Rises xs

  above : (k : ℕ) (xs : List X) → All (λ y. k < key y) xs → IsAbove k xs
  above k [] all = tt
  above k (x ∷ xs) all = (all 0 x (omega arith), above k xs (λ i d within. all (suc i) d (omega arith)))

  pub rises : (xs : List X) → AllPairs (λ x y. key x < key y) xs → Rises xs
  rises [] pairs = tt
  rises (x ∷ xs) pairs =
      (above (key x) xs (λ i d within. pairs 0 (suc i) d (omega arith) (omega arith)), rises xs (λ i j d before within. pairs (suc i) (suc j) d (omega arith) (omega arith)))

  -- none that is above a key has it
  filter-above : (k : ℕ) (xs : List X) → IsAbove k xs → filter (λ x. not (nat_eq k (key x))) xs ≡ xs
  filter-above k [] above = refl
  filter-above k (x ∷ xs) above =
      let other : nat_eq k (key x) ≡ false = differs k (key x) above.0 in
      rw other (ap (λ rest. x ∷ rest) (filter-above k xs above.1))

  -- what has the key goes: it stands at one place, if at all
  pub filter-remove : (k : ℕ) (xs : List X) → Rises xs → filter (λ x. not (nat_eq k (key x))) xs ≡ remove xs (position_or_len (λ x. nat_eq k (key x)) xs)
  filter-remove k [] rises = refl
  filter-remove k (x ∷ xs) rises = by (nat_eq k (key x)) refl (filter-remove k xs rises.1)
    where
      by : (b : Bool) → nat_eq k (key x) ≡ b
          → filter (λ y. not (nat_eq k (key y))) xs ≡ remove xs (position_or_len (λ y. nat_eq k (key y)) xs)
          → filter (λ y. not (nat_eq k (key y))) (x ∷ xs) ≡ remove (x ∷ xs) (position_or_len (λ y. nat_eq k (key y)) (x ∷ xs))
      by true found rest = rw found (filter-above k xs (subst (λ n. IsAbove n xs) (sym (same k (key x) found)) rises.0))
      by false other rest = rw other (ap (λ ys. x ∷ ys) rest ∙ remove-one_more x xs (position_or_len (λ y. nat_eq k (key y)) xs))

  map-above : (k : ℕ) (new : X) (xs : List X) → IsAbove k xs → map (λ x. if nat_eq k (key x) then new else x) xs ≡ xs
  map-above k new [] above = refl
  map-above k new (x ∷ xs) above =
      let other : nat_eq k (key x) ≡ false = differs k (key x) above.0 in
      rw other (ap (λ rest. x ∷ rest) (map-above k new xs above.1))

  -- what has the key is replaced
  pub map-set : (k : ℕ) (new : X) (xs : List X) → Rises xs → map (λ x. if nat_eq k (key x) then new else x) xs ≡ set xs (position_or_len (λ x. nat_eq k (key x)) xs) new
  map-set k new [] rises = refl
  map-set k new (x ∷ xs) rises = by (nat_eq k (key x)) refl (map-set k new xs rises.1)
    where
      by : (b : Bool) → nat_eq k (key x) ≡ b
          → map (λ y. if nat_eq k (key y) then new else y) xs ≡ set xs (position_or_len (λ y. nat_eq k (key y)) xs) new
          → map (λ y. if nat_eq k (key y) then new else y) (x ∷ xs) ≡ set (x ∷ xs) (position_or_len (λ y. nat_eq k (key y)) (x ∷ xs)) new
      by true found rest = rw found (ap (λ ys. new ∷ ys) (map-above k new xs (subst (λ n. IsAbove n xs) (sym (same k (key x) found)) rises.0)))
      by false other rest = rw other (ap (λ ys. x ∷ ys) rest ∙ set-one_more x xs (position_or_len (λ y. nat_eq k (key y)) xs) new)

-- ---- What a search found

module _ {X : Type 0} (test : X → Bool) (xs : List X) where
  found_at : (b : Bool) (n i : ℕ) → (if b then Some n else None) ≡ Some i → (b ≡ true) × (n ≡ i)
  found_at true n i e = (refl, cc)
  found_at false n i e = cc

  missed : (b : Bool) (n : ℕ) → (if b then Some n else None) ≡ None → b ≡ false
  missed true n e = cc
  missed false n e = refl

  pub position_or_len-found : (i : ℕ) → position test xs ≡ Some i → position_or_len test xs ≡ i
  position_or_len-found i e = (found_at (nat_lt (position_or_len test xs) (length xs)) (position_or_len test xs) i e).1

  pub within-found : (i : ℕ) → position test xs ≡ Some i → i < length xs
  within-found i e =
      let parts = found_at (nat_lt (position_or_len test xs) (length xs)) (position_or_len test xs) i e in
      grind (arith, nat_tests, parts)

  pub past-missed : position test xs ≡ None → length xs ≤ position_or_len test xs
  past-missed e =
      let no : nat_lt (position_or_len test xs) (length xs) ≡ false = missed (nat_lt (position_or_len test xs) (length xs)) (position_or_len test xs) e in
      grind (arith, nat_tests, no)

  -- a search by place and a search for the object agree
  pub find-found : (i : ℕ) → position test xs ≡ Some i → find test xs ≡ slice_get xs i
  find-found i e = find_at test xs ∙ ap (slice_get xs) (position_or_len-found i e)

  pub find-missed : position test xs ≡ None → find test xs ≡ None
  find-missed e = find_at test xs ∙ slice_get_past xs (position_or_len test xs) (past-missed e)

-- what a search missed fails the test
pub all_fail : {X : Type 0} (test : X → Bool) (xs : List X) → is_some (find test xs) ≡ false → All (λ x. test x ≡ false) xs
all_fail test [] none = All-nil (λ x. test x ≡ false)
all_fail test (x ∷ xs) none = by (test x) refl none (all_fail test xs)
  where
    by : (b : Bool) → test x ≡ b → is_some (cond b (Some x) (find test xs)) ≡ false
        → (is_some (find test xs) ≡ false → All (λ y. test y ≡ false) xs) → All (λ y. test y ≡ false) (x ∷ xs)
    by true passes never rest = cc
    by false fails still rest = All-cons (λ y. test y ≡ false) x xs fails (rest still)

pub remove-past : {X : Type 0} (xs : List X) (i : ℕ) → length xs ≤ i → remove xs i ≡ xs
remove-past xs i past = rw (take_all, drop_all (suc i) xs (omega arith)) (append-nil xs)
