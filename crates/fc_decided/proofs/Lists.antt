-- What lists contain, filtered, mapped and searched.
use Rattle.std.proofs.Common.{◌≡◌, ℕ, zero, suc, ◌<◌, Bool, true, false, cond, ◌||◌, List, [], ◌∷◌, ◌++◌, length, map, Some, None, refl, sym, ap, subst, ◌∙◌, arith, Contains, ◌⊎◌, inl, inr, get_or, All}
use Rattle.std.specs.List.{filter, find, list_any}
use Rattle.std.proofs.lemmas.Bool.{both_ways}
use Rattle.std.proofs.lemmas.List.Elements.{Contains-get_or}

pub first_in : {X : Type 0} (x : X) (xs : List X) → Contains (x ∷ xs) x
first_in x xs = (0, omega arith, refl)

pub later_in : {X : Type 0} (y x : X) (xs : List X) → Contains xs x → Contains (y ∷ xs) x
later_in y x xs found = (suc found.0, omega (arith, found.1), found.2)

pub in_cases : {X : Type 0} (x y : X) (xs : List X) → Contains (x ∷ xs) y → (x ≡ y) ⊎ Contains xs y
in_cases {X} x y xs found = by found.0 found.1 found.2
  where
    by : (k : ℕ) → k < length (x ∷ xs) → get_or (x ∷ xs) k y ≡ y → (x ≡ y) ⊎ Contains xs y
    by zero lt e = inl e
    by (suc k) lt e = inr (k, omega (arith, lt), e)

pub none_in : {X : Type 0} (x : X) → Contains [] x → ⊥
none_in x found = let lt : found.0 < 0 = found.1 in omega (arith, lt)

-- by what is contained, and back
pub all_from : {X : Type 0} (P : X → Type 0) (xs : List X) → ((x : X) → Contains xs x → P x) → All P xs
all_from P xs each k d lt = each (get_or xs k d) (Contains-get_or xs k d lt)

-- ---- filtered

pub filter_from : {X : Type 0} (p : X → Bool) (xs : List X) (x : X) → Contains (filter p xs) x → Contains xs x × (p x ≡ true)
filter_from p [] x found = absurd (none_in x found)
filter_from {X} p (y ∷ ys) x found = by (p y) refl (λ there. filter_from p ys x there) found
  where
    by : (b : Bool) → p y ≡ b → (Contains (filter p ys) x → Contains ys x × (p x ≡ true)) → Contains (cond b (y ∷ filter p ys) (filter p ys)) x → Contains (y ∷ ys) x × (p x ≡ true)
    by true e further there = elim (in_cases y x (filter p ys) there) [
      | inl same ↦ (subst (λ (z : X). Contains (y ∷ ys) z) same (first_in y ys), ap p (sym same) ∙ e)
      | inr rest ↦ (let r = further rest in (later_in y x ys r.0, r.1))
    ]
    by false e further there = let r = further there in (later_in y x ys r.0, r.1)

pub filter_in : {X : Type 0} (p : X → Bool) (xs : List X) (x : X) → Contains xs x → p x ≡ true → Contains (filter p xs) x
filter_in p [] x found e = absurd (none_in x found)
filter_in {X} p (y ∷ ys) x found e = by (p y) refl (λ rest. filter_in p ys x rest e) (in_cases y x ys found)
  where
    by : (b : Bool) → p y ≡ b → (Contains ys x → Contains (filter p ys) x) → (y ≡ x) ⊎ Contains ys x → Contains (cond b (y ∷ filter p ys) (filter p ys)) x
    by true q further (inl same) = subst (λ (z : X). Contains (y ∷ filter p ys) z) same (first_in y (filter p ys))
    by true q further (inr rest) = later_in y x (filter p ys) (further rest)
    by false q further (inl same) = absurd (both_ways (p x) (ap p (sym same) ∙ q) e)
    by false q further (inr rest) = further rest

-- ---- mapped

pub map_from : {X Y : Type 0} (f : X → Y) (xs : List X) (y : Y) → Contains (map f xs) y → (x : X) × Contains xs x × (f x ≡ y)
map_from f [] y found = absurd (none_in y found)
map_from f (x ∷ xs) y found =
    elim (in_cases (f x) y (map f xs) found) [
      | inl same ↦ (x, first_in x xs, same)
      | inr rest ↦ (let r = map_from f xs y rest in (r.0, later_in x r.0 xs r.1, r.2))
    ]

pub map_in : {X Y : Type 0} (f : X → Y) (xs : List X) (x : X) → Contains xs x → Contains (map f xs) (f x)
map_in f [] x found = absurd (none_in x found)
map_in f (z ∷ zs) x found =
    elim (in_cases z x zs found) [
      | inl same ↦ subst (λ w. Contains (f z ∷ map f zs) (f w)) same (first_in (f z) (map f zs))
      | inr rest ↦ later_in (f z) (f x) (map f zs) (map_in f zs x rest)
    ]

-- two maps that agree on what is contained
pub map_alike : {X Y : Type 0} (f g : X → Y) (xs : List X) → ((x : X) → Contains xs x → f x ≡ g x) → map f xs ≡ map g xs
map_alike f g [] alike = refl
map_alike f g (x ∷ xs) alike = ap (λ y. y ∷ map f xs) (alike x (first_in x xs)) ∙ ap (λ ys. g x ∷ ys) (map_alike f g xs (λ z found. alike z (later_in x z xs found)))

-- ---- searched

pub find_from : {X : Type 0} (p : X → Bool) (xs : List X) (x : X) → find p xs ≡ Some x → Contains xs x × (p x ≡ true)
find_from p [] x e = absurd cc
find_from {X} p (y ∷ ys) x e = by (p y) refl (λ there. find_from p ys x there) e
  where
    by : (b : Bool) → p y ≡ b → (find p ys ≡ Some x → Contains ys x × (p x ≡ true)) → cond b (Some y) (find p ys) ≡ Some x → Contains (y ∷ ys) x × (p x ≡ true)
    by true q further there = let same : y ≡ x = cc in (subst (λ (z : X). Contains (y ∷ ys) z) same (first_in y ys), ap p (sym same) ∙ q)
    by false q further there = let rest = further there in (later_in y x ys rest.0, rest.1)

pub find_misses : {X : Type 0} (p : X → Bool) (xs : List X) (x : X) → find p xs ≡ None → Contains xs x → p x ≡ false
find_misses p [] x e found = absurd (none_in x found)
find_misses p (y ∷ ys) x e found = by (p y) refl (λ none there. find_misses p ys x none there) e
  where
    by : (b : Bool) → p y ≡ b → (find p ys ≡ None → Contains ys x → p x ≡ false) → cond b (Some y) (find p ys) ≡ None → p x ≡ false
    by true q further none = absurd cc
    by false q further none = elim (in_cases y x ys found) [ inl same ↦ ap p (sym same) ∙ q | inr rest ↦ further none rest ]

pub find_there : {X : Type 0} (p : X → Bool) (xs : List X) (x : X) → Contains xs x → p x ≡ true → (y : X) × (find p xs ≡ Some y)
find_there p [] x found e = absurd (none_in x found)
find_there {X} p (z ∷ zs) x found e = by (p z) refl (λ there. find_there p zs x there e)
  where
    by : (b : Bool) → p z ≡ b → (Contains zs x → (y : X) × (find p zs ≡ Some y)) → (y : X) × (cond b (Some z) (find p zs) ≡ Some y)
    by true q further = (z, refl)
    by false q further = elim (in_cases z x zs found) [ inl same ↦ absurd (both_ways (p x) (ap p (sym same) ∙ q) e) | inr rest ↦ further rest ]

pub find_none : {X : Type 0} (p : X → Bool) (xs : List X) → ((x : X) → Contains xs x → p x ≡ false) → find p xs ≡ None
find_none p [] none = refl
find_none p (x ∷ xs) none = rw (none x (first_in x xs)) (find_none p xs (λ y found. none y (later_in x y xs found)))

-- the only one that passes is found
pub find_one : {X : Type 0} (p : X → Bool) (xs : List X) (x : X) → Contains xs x → p x ≡ true → ((y : X) → Contains xs y → p y ≡ true → y ≡ x) → find p xs ≡ Some x
find_one p xs x found e one =
    let some = find_there p xs x found e in
    let from = find_from p xs some.0 some.1 in
    some.1 ∙ ap Some (one some.0 from.0 from.1)

-- two searches that agree on what is contained
pub find_alike : {X : Type 0} (p q : X → Bool) (xs : List X) → ((x : X) → Contains xs x → p x ≡ q x) → find p xs ≡ find q xs
find_alike p q [] alike = refl
find_alike p q (x ∷ xs) alike =
    ap (λ b. cond b (Some x) (find p xs)) (alike x (first_in x xs)) ∙ ap (λ o. cond (q x) (Some x) o) (find_alike p q xs (λ y found. alike y (later_in x y xs found)))

pub any_in : {X : Type 0} (p : X → Bool) (xs : List X) (x : X) → list_any p xs ≡ false → Contains xs x → p x ≡ false
any_in p [] x none found = absurd (none_in x found)
any_in p (y ∷ ys) x none found = by (p y) refl (λ rest there. any_in p ys x rest there) none
  where
    by : (b : Bool) → p y ≡ b → (list_any p ys ≡ false → Contains ys x → p x ≡ false) → (b || list_any p ys) ≡ false → p x ≡ false
    by true q further e = absurd cc
    by false q further e = elim (in_cases y x ys found) [ inl same ↦ ap p (sym same) ∙ q | inr rest ↦ further e rest ]

-- one that fails at the end, or is taken out, isn't missed
pub find_short : {X : Type 0} (p : X → Bool) (xs : List X) (y : X) → p y ≡ false → find p (xs ++ y ∷ []) ≡ find p xs
find_short p [] y e = rw e refl
find_short p (x ∷ xs) y e = ap (λ o. cond (p x) (Some x) o) (find_short p xs y e)

pub find_filtered : {X : Type 0} (p q : X → Bool) (xs : List X) → ((x : X) → Contains xs x → p x ≡ true → q x ≡ true) → find p (filter q xs) ≡ find p xs
find_filtered p q [] weaker = refl
find_filtered p q (x ∷ xs) weaker = by (p x) refl (q x) refl (find_filtered p q xs (λ z found. weaker z (later_in x z xs found)))
  where
    by : (b : Bool) → p x ≡ b → (c : Bool) → q x ≡ c → find p (filter q xs) ≡ find p xs → find p (filter q (x ∷ xs)) ≡ find p (x ∷ xs)
    by true passes true kept rest = rw kept (rw passes refl)
    by true passes false gone rest = absurd (both_ways (q x) gone (weaker x (first_in x xs) passes))
    by false fails true kept rest = rw kept (rw fails rest)
    by false fails false gone rest = rw gone (rw fails rest)

pub find_longer : {X : Type 0} (p : X → Bool) (xs ys : List X) (x : X) → find p xs ≡ Some x → find p (xs ++ ys) ≡ Some x
find_longer p [] ys x e = absurd cc
find_longer p (z ∷ zs) ys x e = by (p z) (λ rest. find_longer p zs ys x rest) e
  where
    by : (b : Bool) → (find p zs ≡ Some x → find p (zs ++ ys) ≡ Some x) → cond b (Some z) (find p zs) ≡ Some x → cond b (Some z) (find p (zs ++ ys)) ≡ Some x
    by true further q = q
    by false further q = further q

pub any_there : {X : Type 0} (p : X → Bool) (xs : List X) (x : X) → Contains xs x → p x ≡ true → list_any p xs ≡ true
any_there p [] x found e = absurd (none_in x found)
any_there p (y ∷ ys) x found e = elim (in_cases y x ys found) [
  | inl same ↦ ap (λ b. b || list_any p ys) (ap p same ∙ e)
  | inr rest ↦ ap (λ b. p y || b) (any_there p ys x rest e) ∙ or_true (p y)
]
  where
    or_true : (b : Bool) → (b || true) ≡ true
    or_true true = refl
    or_true false = refl

pub any_from : {X : Type 0} (p : X → Bool) (xs : List X) → list_any p xs ≡ true → (x : X) × Contains xs x × (p x ≡ true)
any_from p [] e = absurd cc
any_from {X} p (y ∷ ys) e = by (p y) refl (λ rest. any_from p ys rest) e
  where
    by : (b : Bool) → p y ≡ b → (list_any p ys ≡ true → (x : X) × Contains ys x × (p x ≡ true)) → (b || list_any p ys) ≡ true → (x : X) × Contains (y ∷ ys) x × (p x ≡ true)
    by true q further there = (y, first_in y ys, q)
    by false q further there = let r = further there in (r.0, later_in y r.0 ys r.1, r.2)
