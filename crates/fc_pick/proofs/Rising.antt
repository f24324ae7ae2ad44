-- Lists whose keys rise: where a key stands, and what stands before it and behind it.
use Rattle.std.proofs.Common.{◌≡◌, ◌≢◌, ℕ, zero, suc, ◌<◌, ◌≤◌, Bool, true, false, List, [], ◌∷◌, ◌++◌, length, get_or, take, drop, set, filter, nat_eq, nat_lt, refl, ap, sym, ◌∙◌, arith, AllPairs, All, true≢false, ⊎_elim}
use Rattle.std.specs.List.{list_any, insert}
use Rattle.std.proofs.lemmas.List.{take-append-drop}
use Rattle.std.proofs.lemmas.List.Kept.{AllPairs-cons}
use Rattle.std.proofs.lemmas.List.Elements.{All-nil, All-cons}
use Rattle.std.proofs.lemmas.Bool.Decides.{nat_tests}
use Rattle.std.proofs.lemmas.Bool.{cases_lt}
use Rattle.std.specs.List.Sorted.{IsPartitionedBy, IsPartitionPoint}

lt_true : (a b : ℕ) → a < b → nat_lt a b ≡ true
lt_true a b below = grind (arith, nat_tests)

pub lt_false : (a b : ℕ) → b ≤ a → nat_lt a b ≡ false
lt_false a b above = grind (arith, nat_tests)

below : (a b : ℕ) → nat_lt a b ≡ true → a < b
below a b e = grind (arith, nat_tests)

not_below : (a b : ℕ) → nat_lt a b ≡ false → b ≤ a
not_below a b e = grind (arith, nat_tests)

eq_false : (a b : ℕ) → a ≢ b → nat_eq a b ≡ false
eq_false a b other = grind (arith, nat_tests, other)

equal : (a b : ℕ) → nat_eq a b ≡ true → a ≡ b
equal a b e = grind (arith, nat_tests)

unequal : (a b : ℕ) → nat_eq a b ≡ false → a ≢ b
unequal a b e = grind (arith, nat_tests)

-- an item that is put where it stands
set_same : {X : Type 0} (xs : List X) (i : ℕ) (d : X) → i < length xs → set xs i (get_or xs i d) ≡ xs
set_same [] i d within = absurd (omega arith)
set_same (x ∷ xs) zero d within = refl
set_same (x ∷ xs) (suc i) d within = ap (λ ys. x ∷ ys) (set_same xs i d (omega arith))

module _ {X : Type 0} (key : X → ℕ) where
  abbrev pub IsAbove : ℕ → List X → Type 0
  IsAbove k [] = Unit {0}
  IsAbove k (x ∷ xs) = (k < key x) × IsAbove k xs

  abbrev pub Rises : List X → Type 0
  Rises [] = Unit {0}
  Rises (x ∷ xs) = IsAbove (key x) xs × Rises xs

  above : (k : ℕ) (xs : List X) → All (λ y. k < key y) xs → IsAbove k xs
  above k [] all = tt
  above k (x ∷ xs) all = (all 0 x (omega arith), above k xs (λ i d within. all (suc i) d (omega arith)))

  pub rises : (xs : List X) → AllPairs (λ x y. key x < key y) xs → Rises xs
  rises [] pairs = tt
  rises (x ∷ xs) pairs =
      (above (key x) xs (λ i d within. pairs 0 (suc i) d (omega arith) (omega arith)), rises xs (λ i j d before within. pairs (suc i) (suc j) d (omega arith) (omega arith)))

  all_above : (k : ℕ) (xs : List X) → IsAbove k xs → All (λ y. k < key y) xs
  all_above k [] higher = All-nil (λ y. k < key y)
  all_above k (x ∷ xs) higher = All-cons (λ y. k < key y) x xs higher.0 (all_above k xs higher.1)

  pub pairs_of : (xs : List X) → Rises xs → AllPairs (λ x y. key x < key y) xs
  pairs_of [] rising = λ i j d before within. absurd (omega arith)
  pairs_of (x ∷ xs) rising = AllPairs-cons (λ x y. key x < key y) x xs (all_above (key x) xs rising.0) (pairs_of xs rising.1)

  -- ---- those below a key, those above it, and whether it is there
  abbrev pub lows : ℕ → List X → List X
  lows m xs = filter (λ x. nat_lt (key x) m) xs

  abbrev pub highs : ℕ → List X → List X
  highs m xs = filter (λ x. nat_lt m (key x)) xs

  abbrev pub is_among : ℕ → List X → Bool
  is_among m xs = list_any (λ x. nat_eq m (key x)) xs

  no_lows : (m k : ℕ) (xs : List X) → m ≤ k → IsAbove k xs → lows m xs ≡ []
  no_lows m k [] le higher = refl
  no_lows m k (x ∷ xs) le higher =
      let fails : nat_lt (key x) m ≡ false = lt_false (key x) m (omega (arith, higher.0)) in
      rw fails (no_lows m k xs le higher.1)

  all_highs : (m k : ℕ) (xs : List X) → m ≤ k → IsAbove k xs → highs m xs ≡ xs
  all_highs m k [] le higher = refl
  all_highs m k (x ∷ xs) le higher =
      let passes : nat_lt m (key x) ≡ true = lt_true m (key x) (omega (arith, higher.0)) in
      rw passes (ap (λ ys. x ∷ ys) (all_highs m k xs le higher.1))

  not_among : (m k : ℕ) (xs : List X) → m ≤ k → IsAbove k xs → is_among m xs ≡ false
  not_among m k [] le higher = refl
  not_among m k (x ∷ xs) le higher =
      let differs : nat_eq m (key x) ≡ false = eq_false m (key x) (λ e. absurd (omega (arith, higher.0))) in
      rw differs (not_among m k xs le higher.1)

  -- The three cases of a list that begins with x: x is lower and the search goes on, x has the key, or the key is not there.
  low_step : (m : ℕ) (x : X) (xs : List X) → key x < m → (lows m (x ∷ xs) ≡ x ∷ lows m xs) × ((highs m (x ∷ xs) ≡ highs m xs) × (is_among m (x ∷ xs) ≡ is_among m xs))
  low_step m x xs lower =
      let passes : nat_lt (key x) m ≡ true = lt_true (key x) m lower in
      let fails : nat_lt m (key x) ≡ false = lt_false m (key x) (omega arith) in
      let differs : nat_eq m (key x) ≡ false = eq_false m (key x) (λ e. absurd (omega arith)) in
      (rw passes refl, (rw fails refl, rw differs refl))

  here_step : (m : ℕ) (x : X) (xs : List X) → key x ≡ m → IsAbove (key x) xs → (lows m (x ∷ xs) ≡ []) × ((highs m (x ∷ xs) ≡ xs) × (is_among m (x ∷ xs) ≡ true))
  here_step m x xs same higher =
      let fails : nat_lt (key x) m ≡ false = lt_false (key x) m (omega arith) in
      let fails_too : nat_lt m (key x) ≡ false = lt_false m (key x) (omega arith) in
      let equals : nat_eq m (key x) ≡ true = grind (arith, nat_tests) in
      (rw fails (no_lows m (key x) xs (omega arith) higher), (rw fails_too (all_highs m (key x) xs (omega arith) higher), rw equals refl))

  past_step : (m : ℕ) (x : X) (xs : List X) → m < key x → IsAbove (key x) xs → (lows m (x ∷ xs) ≡ []) × ((highs m (x ∷ xs) ≡ x ∷ xs) × (is_among m (x ∷ xs) ≡ false))
  past_step m x xs higher all =
      let fails : nat_lt (key x) m ≡ false = lt_false (key x) m (omega arith) in
      let passes : nat_lt m (key x) ≡ true = lt_true m (key x) higher in
      let differs : nat_eq m (key x) ≡ false = eq_false m (key x) (λ e. absurd (omega arith)) in
      (rw fails (no_lows m (key x) xs (omega arith) all), (rw passes (ap (λ ys. x ∷ ys) (all_highs m (key x) xs (omega arith) all)), rw differs (not_among m (key x) xs (omega arith) all)))

  -- ---- the place of a key
  cases : (m : ℕ) (x : X) {C : Type 0} → (key x < m → C) → (key x ≡ m → C) → (m < key x → C) → C
  cases m x {C} low here past = by (nat_lt (key x) m) refl (nat_lt m (key x)) refl
    where
      by : (b : Bool) → nat_lt (key x) m ≡ b → (c : Bool) → nat_lt m (key x) ≡ c → C
      by true lower c e = low (below (key x) m lower)
      by false _ true higher = past (below m (key x) higher)
      by false higher_or_same false neither =
          let one : m ≤ key x = not_below (key x) m higher_or_same in
          let other : key x ≤ m = not_below m (key x) neither in
          here (omega arith)

  -- where the key is there, it stands behind the lower ones, and the higher ones stand behind it
  pub set_known : (m : ℕ) (xs : List X) (y : X) → Rises xs → is_among m xs ≡ true → set xs (length (lows m xs)) y ≡ lows m xs ++ y ∷ highs m xs
  set_known m [] y rising there = cc
  set_known m (x ∷ xs) y rising there = cases m x
      (λ lower. let s = low_step m x xs lower in
      rw (s.0, s.1.0) (ap (λ ys. x ∷ ys) (set_known m xs y rising.1 (sym s.1.1 ∙ there))))
      (λ here. let s = here_step m x xs here rising.0 in rw (s.0, s.1.0) refl)
      (λ higher. let s = past_step m x xs higher rising.0 in absurd (true≢false (sym there ∙ s.1.1)))

  pub at_known : (m : ℕ) (xs : List X) → Rises xs → is_among m xs ≡ true → (length (lows m xs) < length xs) × ((d : X) → key (get_or xs (length (lows m xs)) d) ≡ m)
  at_known m [] rising there = cc
  at_known m (x ∷ xs) rising there = cases m x
      (λ lower. let s = low_step m x xs lower in
      let rest = at_known m xs rising.1 (sym s.1.1 ∙ there) in
      rw s.0 (omega (arith, rest.0), rest.1))
      (λ here. let s = here_step m x xs here rising.0 in rw s.0 (omega arith, λ d. here))
      (λ higher. let s = past_step m x xs higher rising.0 in absurd (true≢false (sym there ∙ s.1.1)))

  -- what stands at the place of a key that isn't there is higher
  pub at_new : (m : ℕ) (xs : List X) (d : X) → Rises xs → is_among m xs ≡ false → length (lows m xs) < length xs → m < key (get_or xs (length (lows m xs)) d)
  at_new m [] d rising new = λ within. absurd (omega arith)
  at_new m (x ∷ xs) d rising new = cases m x
      (λ lower. let s = low_step m x xs lower in
      rw s.0 (λ within. at_new m xs d rising.1 (sym s.1.1 ∙ new) (omega arith)))
      (λ here. let s = here_step m x xs here rising.0 in absurd (true≢false (sym s.1.1 ∙ new)))
      (λ higher. let s = past_step m x xs higher rising.0 in rw s.0 (λ within. higher))

  pub take_lows : (m : ℕ) (xs : List X) → Rises xs → take (length (lows m xs)) xs ≡ lows m xs
  take_lows m [] rising = refl
  take_lows m (x ∷ xs) rising = cases m x
      (λ lower. let s = low_step m x xs lower in
      rw s.0 (ap (λ ys. x ∷ ys) (take_lows m xs rising.1)))
      (λ here. let s = here_step m x xs here rising.0 in rw s.0 refl)
      (λ higher. let s = past_step m x xs higher rising.0 in rw s.0 refl)

  pub drop_new : (m : ℕ) (xs : List X) → Rises xs → is_among m xs ≡ false → drop (length (lows m xs)) xs ≡ highs m xs
  drop_new m [] rising new = refl
  drop_new m (x ∷ xs) rising new = cases m x
      (λ lower. let s = low_step m x xs lower in
      rw (s.0, s.1.0) (drop_new m xs rising.1 (sym s.1.1 ∙ new)))
      (λ here. let s = here_step m x xs here rising.0 in absurd (true≢false (sym s.1.1 ∙ new)))
      (λ higher. let s = past_step m x xs higher rising.0 in rw (s.0, s.1.0) refl)

  pub insert_new : (m : ℕ) (xs : List X) (y : X) → Rises xs → is_among m xs ≡ false → insert xs (length (lows m xs)) y ≡ lows m xs ++ y ∷ highs m xs
  insert_new m xs y rising new = λ k. take_lows m xs rising k ++ y ∷ drop_new m xs rising new k

  -- the lower ones and the higher ones are all where the key isn't there
  pub apart : (m : ℕ) (xs : List X) → Rises xs → is_among m xs ≡ false → lows m xs ++ highs m xs ≡ xs
  apart m xs rising new =
      sym (λ k. take_lows m xs rising k ++ drop_new m xs rising new k) ∙ take-append-drop (length (lows m xs)) xs

  -- ---- still rising
  above_filter : (k : ℕ) (p : X → Bool) (xs : List X) → IsAbove k xs → IsAbove k (filter p xs)
  above_filter k p [] higher = tt
  above_filter k p (x ∷ xs) higher = by (p x) refl (above_filter k p xs higher.1)
    where
      by : (b : Bool) → p x ≡ b → IsAbove k (filter p xs) → IsAbove k (filter p (x ∷ xs))
      by true e rest = rw e (higher.0, rest)
      by false e rest = rw e rest

  above_join : (k : ℕ) (xs : List X) (y : X) (zs : List X) → IsAbove k xs → k < key y → IsAbove k zs → IsAbove k (xs ++ y ∷ zs)
  above_join k [] y zs left lower right = (lower, right)
  above_join k (x ∷ xs) y zs left lower right = (left.0, above_join k xs y zs left.1 lower right)

  above_lower : (j k : ℕ) (xs : List X) → j ≤ k → IsAbove k xs → IsAbove j xs
  above_lower j k [] le higher = tt
  above_lower j k (x ∷ xs) le higher = (omega (arith, higher.0), above_lower j k xs le higher.1)

  pub put_rises : (m : ℕ) (xs : List X) (y : X) → key y ≡ m → Rises xs → Rises (lows m xs ++ y ∷ highs m xs)
  put_rises m [] y own rising = (tt, tt)
  put_rises m (x ∷ xs) y own rising = cases m x
      (λ lower. let s = low_step m x xs lower in
      rw (s.0, s.1.0) (
        above_join (key x) (lows m xs) y (highs m xs) (above_filter (key x) (λ z. nat_lt (key z) m) xs rising.0) (omega arith) (above_filter (key x) (λ z. nat_lt m (key z)) xs rising.0),
        put_rises m xs y own rising.1,
      ))
      (λ here. let s = here_step m x xs here rising.0 in
      rw (s.0, s.1.0) (above_lower (key y) (key x) xs (omega arith) rising.0, rising.1))
      (λ higher. let s = past_step m x xs higher rising.0 in
      let lower : key y < key x = omega arith in
      rw (s.0, s.1.0) ((lower, above_lower (key y) (key x) xs (omega arith) rising.0), rising))

  -- the key is there where its row is put
  pub put_known : (m : ℕ) (xs : List X) → Rises xs → is_among m xs ≡ true → (d : X) → lows m xs ++ get_or xs (length (lows m xs)) d ∷ highs m xs ≡ xs
  put_known m xs rising there d =
      sym (set_known m xs (get_or xs (length (lows m xs)) d) rising there) ∙ set_same xs (length (lows m xs)) d (at_known m xs rising there).0

  -- ---- a place found by halving
  pub partitioned : (m : ℕ) (xs : List X) → AllPairs (λ x y. key x < key y) xs → IsPartitionedBy (λ y. nat_lt (key y) m) xs
  partitioned m xs pairs i j d le within lower = ⊎_elim
      (λ before. lt_true (key (get_or xs i d)) m (omega (arith, pairs i j d before within, below (key (get_or xs j d)) m lower)))
      (λ past. let same : i ≡ j = omega arith in rw same lower)
      (cases_lt i j)

  pub lows_point : (m : ℕ) (xs : List X) (i : ℕ) → i ≤ length xs → IsPartitionPoint (λ y. nat_lt (key y) m ≡ true) (λ y. nat_lt (key y) m ≡ false) xs i → i ≡ length (lows m xs)
  lows_point m [] i within point = omega arith
  lows_point m (x ∷ xs) zero within point =
      let fails : nat_lt (key x) m ≡ false = point.1 0 x (omega arith) (omega arith) in
      rw fails (lows_point m xs zero (omega arith) (λ k d from to. absurd (omega arith), λ k d from to. point.1 (suc k) d (omega arith) (omega arith)))
  lows_point m (x ∷ xs) (suc i) within point =
      let passes : nat_lt (key x) m ≡ true = point.0 0 x (omega arith) (omega arith) in
      rw passes (ap suc (lows_point m xs i (omega arith) (λ k d from to. point.0 (suc k) d (omega arith) (omega arith), λ k d from to. point.1 (suc k) d (omega arith) (omega arith))))
