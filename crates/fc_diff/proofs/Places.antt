-- The first place in a list that passes a test.
use Rattle.std.proofs.Common.{◌≡◌, ℕ, zero, suc, ◌+◌, ◌<◌, ◌≤◌, Bool, true, false, not, cond, List, [], ◌∷◌, map, length, get_or, take, nat_eq, find, position, slice_get, nat_lt, Option, Some, None, refl, ap, sym, ◌∙◌, arith, if◌then◌else◌}
use Rattle.std.specs.List.{position_or_len, prefix_len, list_any}
use Rattle.std.proofs.lemmas.List.{length-map, length-take, get_or-take}
use Rattle.std.proofs.lemmas.List.Folds.{find_at}
use Rattle.std.proofs.lemmas.List.Quantifiers.{position-Some}
use Rattle.std.proofs.lemmas.List.Sums.{position_or_len_is}
use Rattle.std.proofs.lemmas.Option.{slice_get_past, slice_get-get_or}
use Rattle.std.proofs.lemmas.Bool.Decides.{nat_tests}
use Rattle.fc_changed.specs.Row.{Row, is_of}
use Rattle.fc_diff.specs.Index.{map_numbers}

prefix_len-map : {A B : Type 0} (test : B → Bool) (f : A → B) (xs : List A) → prefix_len test (map f xs) ≡ prefix_len (λ x. test (f x)) xs
prefix_len-map test f [] = refl
prefix_len-map test f (x ∷ xs) = ap (λ n. cond (test (f x)) (1 + n) 0) (prefix_len-map test f xs)

-- in a list of keys
pub position-map : {A B : Type 0} (test : B → Bool) (f : A → B) (xs : List A) → position test (map f xs) ≡ position (λ x. test (f x)) xs
position-map test f xs = simp (prefix_len-map (λ x. not (test x)) f xs, length-map xs f)

module _ {X : Type 0} (test : X → Bool) (xs : List X) where
  found_at : (b : Bool) (n i : ℕ) → (if b then Some n else None) ≡ Some i → n ≡ i
  found_at true n i e = cc
  found_at false n i e = cc

  missed : (b : Bool) (n : ℕ) → (if b then Some n else None) ≡ None → b ≡ false
  missed true n e = cc
  missed false n e = refl

  -- what a search by place and a search for the item say
  pub find-found : (i : ℕ) (d : X) → position test xs ≡ Some i → find test xs ≡ Some (get_or xs i d)
  find-found i d e =
      find_at test xs
      ∙ (ap (slice_get xs) (found_at (nat_lt (position_or_len test xs) (length xs)) (position_or_len test xs) i e)
      ∙ slice_get-get_or xs i d (position-Some test xs i d e).0)

  past : position test xs ≡ None → length xs ≤ position_or_len test xs
  past e =
      let fails : nat_lt (position_or_len test xs) (length xs) ≡ false = missed (nat_lt (position_or_len test xs) (length xs)) (position_or_len test xs) e in
      grind (arith, nat_tests, fails)

  pub find-missed : position test xs ≡ None → find test xs ≡ None
  find-missed e = find_at test xs ∙ slice_get_past xs (position_or_len test xs) (past e)

not_found : {X : Type 0} (b : Bool) (x : X) (o : Option X) → cond b (Some x) o ≡ None → (b ≡ false) × (o ≡ None)
not_found true x o e = cc
not_found false x o e = (refl, e)

-- where no item is found, each fails
pub all_fail : {X : Type 0} (test : X → Bool) (xs : List X) → find test xs ≡ None → (k : ℕ) (d : X) → k < length xs → test (get_or xs k d) ≡ false
all_fail test [] none k d within = absurd (omega arith)
all_fail test (x ∷ xs) none zero d within = (not_found (test x) x (find test xs) none).0
all_fail test (x ∷ xs) none (suc k) d within = all_fail test xs (not_found (test x) x (find test xs) none).1 k d (omega arith)

pub any_found : {X : Type 0} (test : X → Bool) (xs : List X) → find test xs ≡ None → list_any test xs ≡ false
any_found test [] none = refl
any_found test (x ∷ xs) none =
    let parts = not_found (test x) x (find test xs) none in
    rw parts.0 (any_found test xs parts.1)

-- ---- the place, by what passes and what doesn't

less : (i n : ℕ) → i < n → nat_lt i n ≡ true
less i n e = grind (arith, nat_tests, e)

not_less : (n : ℕ) → nat_lt n n ≡ false
not_less n = grind (arith, nat_tests)

pub position_here : {X : Type 0} (test : X → Bool) (xs : List X) (i : ℕ) (d : X) → i < length xs → ((k : ℕ) → k < i → test (get_or xs k d) ≡ false) → test (get_or xs i d) ≡ true → position test xs ≡ Some i
position_here test xs i d within before here =
    let at : position_or_len test xs ≡ i = position_or_len_is test xs i d (omega arith) before (λ w. here) in
    rw at (ap (λ b. cond b (Some i) None) (less i (length xs) within))

pub position_nowhere : {X : Type 0} (test : X → Bool) (xs : List X) (d : X) → ((k : ℕ) → k < length xs → test (get_or xs k d) ≡ false) → position test xs ≡ None
position_nowhere test xs d fails =
    let at : position_or_len test xs ≡ length xs = position_or_len_is test xs (length xs) d (omega arith) fails (λ w. absurd (omega arith)) in
    rw at (ap (λ b. cond b (Some (length xs)) None) (not_less (length xs)))

-- ---- the row of a mapping, by numbers of which the first stand beside the rows
module _ (m : ℕ) (ids : List ℕ) (rows : List Row) (beside : take (length rows) ids ≡ map_numbers rows) where
  size : length (take (length rows) ids) ≡ length rows
  size = ap (λ xs. length xs) beside ∙ length-map rows (λ (row : Row). row.map)

  as_row : position (nat_eq m) (take (length rows) ids) ≡ position (is_of m) rows
  as_row = ap (position (nat_eq m)) beside ∙ position-map (nat_eq m) (λ (row : Row). row.map) rows

  pub place_among : (p : ℕ) → position (nat_eq m) ids ≡ Some p → p < length rows → position (is_of m) rows ≡ Some p
  place_among p found within =
      let s = position-Some (nat_eq m) ids p 0 found in
      sym as_row ∙ position_here (nat_eq m) (take (length rows) ids) p 0 (omega (arith, size))
      (λ k before. ap (nat_eq m) (get_or-take (length rows) ids k 0 (omega arith)) ∙ s.2 k before)
      (ap (nat_eq m) (get_or-take (length rows) ids p 0 within) ∙ s.1)

  pub place_behind : (p : ℕ) → position (nat_eq m) ids ≡ Some p → length rows ≤ p → position (is_of m) rows ≡ None
  place_behind p found past =
      let s = position-Some (nat_eq m) ids p 0 found in
      sym as_row ∙ position_nowhere (nat_eq m) (take (length rows) ids) 0
      (λ k within. let below : k < length rows = omega (arith, size) in
      ap (nat_eq m) (get_or-take (length rows) ids k 0 below) ∙ s.2 k (omega arith))

  pub place_nowhere : position (nat_eq m) ids ≡ None → position (is_of m) rows ≡ None
  place_nowhere missed =
      sym as_row ∙ position_nowhere (nat_eq m) (take (length rows) ids) 0
      (λ k within. let below : k < length rows = omega (arith, size) in
      let long : k < length ids = omega (arith, length-take (length rows) ids) in
      ap (nat_eq m) (get_or-take (length rows) ids k 0 below) ∙ all_fail (nat_eq m) ids (find-missed (nat_eq m) ids missed) k 0 long)
