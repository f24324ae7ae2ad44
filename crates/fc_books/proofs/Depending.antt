-- The dependents that one pass in order of places finds are the least set that is meant.
use Rattle.std.proofs.Common.{◌≡◌, ◌∙◌, sym, ap, subst, ℕ, zero, suc, ◌+◌, ◌<◌, ◌≤◌, Bool, true, false, cond, not, ◌&&◌, ◌||◌, ◌==◌, List, [], ◌∷◌, ◌++◌, length, Option, Some, None, refl, arith, get_or, inl, inr, ◌⊎◌}
use Rattle.std.specs.List.{list_any, fold, range_with_len}
use Rattle.std.proofs.lemmas.Bool.{cases_eq, or_left, or_right, eq-eqb, eqb-true, eqb-false}
use Rattle.std.proofs.lemmas.List.Folds.{list_any-append}
use Rattle.fc_base.specs.Column.{holder, last_below, is_at}
use Rattle.fc_base.specs.Counts.{reads_some}
use Rattle.fc_base.specs.Need.{ReadsAt, IsDependent, direct, onward}
use Rattle.fc_base.specs.Sheet.{Slot, slot_at, column}
use Rattle.fc_base.specs.SheetFacts.{HasSizes}
use Rattle.fc_books.specs.Copies.{joins_dependents, dependent_places}
use Rattle.fc_books.proofs.Using.{any_below-found, any_below-there, first_of_both, second_of_both, both}

-- ---- holders

unwrapped : Option ℕ → ℕ → ℕ
unwrapped (Some n) d = n
unwrapped None d = d

same_some : (n k : ℕ) → Some n ≡ Some k → n ≡ k
unfolding unwrapped
same_some n k e = ap (λ o. unwrapped o n) e

last_bound : (test : ℕ → Bool) (n k : ℕ) (b : Bool) → (last_below test n ≡ Some k → k < n) → cond b (Some n) (last_below test n) ≡ Some k → k < suc n
last_bound test n k true rest e = grind (arith, e)
last_bound test n k false rest e = omega (arith, rest e)

last_within : (test : ℕ → Bool) (n k : ℕ) → last_below test n ≡ Some k → k < n
unfolding last_below
last_within test zero k e = grind (arith, e)
last_within test (suc n) k e = last_bound test n k (test n) (last_within test n k) e

last_test : (test : ℕ → Bool) (n k : ℕ) (b : Bool) → test n ≡ b → (last_below test n ≡ Some k → test k ≡ true) → cond b (Some n) (last_below test n) ≡ Some k → test k ≡ true
last_test test n k true is rest e =
    let P : ℕ → Type 0 = λ x. test x ≡ true in subst P (same_some n k e) is
last_test test n k false is rest e = rest e

last_passes : (test : ℕ → Bool) (n k : ℕ) → last_below test n ≡ Some k → test k ≡ true
unfolding last_below
last_passes test zero k e = grind (arith, e)
last_passes test (suc n) k e = last_test test n k (test n) refl (last_passes test n k) e

holder_within : (slots : List Slot) (g d h : ℕ) → holder (column slots g) d ≡ Some h → h ≤ d
unfolding holder
holder_within slots g d h e =
    let lt : h < d + 1 = last_within _ (d + 1) h e in omega (arith, lt)

-- a slot reads from another one at one of its grains
at_found : (o : Option ℕ) (h : ℕ) → is_at o h ≡ true → o ≡ Some h
at_found None h e = grind (arith, e)
at_found (Some k) h e = ap Some (eqb-true k h e)

at_there : (o : Option ℕ) (h : ℕ) → o ≡ Some h → is_at o h ≡ true
at_there o h e = rw e (eq-eqb h h refl)

reads_found : (slots : List Slot) (h d : ℕ) → reads_some slots h d ≡ true → (g : ℕ) × (holder (column slots g) d ≡ Some h)
reads_found slots h d e =
    let found = any_below-found (λ g. is_at (holder (column slots g) d) h) (length (slot_at slots d).held) e in
    (found.0, at_found (holder (column slots found.0) d) h found.2)

-- a grain that some slot of the chain holds is a grain of all its slots
past_none : (xs : List Bool) (g : ℕ) → get_or xs g false ≡ true → g < length xs
past_none [] g e = grind (arith, e)
past_none (x ∷ xs) zero e = omega arith
past_none (x ∷ xs) (suc g) e = omega (arith, past_none xs g e)

holds_there : (slots : List Slot) (g d h : ℕ) → holder (column slots g) d ≡ Some h → ((slot_at slots h).chain ≡ (slot_at slots d).chain) × (get_or (slot_at slots h).held g false ≡ true)
unfolding holder
holds_there slots g d h e =
    let passes : (((slot_at slots h).chain == (slot_at slots d).chain) && get_or (slot_at slots h).held g false) ≡ true = last_passes _ (d + 1) h e in (
      eqb-true (slot_at slots h).chain (slot_at slots d).chain (first_of_both ((slot_at slots h).chain == (slot_at slots d).chain) (get_or (slot_at slots h).held g false) passes),
      second_of_both ((slot_at slots h).chain == (slot_at slots d).chain) (get_or (slot_at slots h).held g false) passes,
    )

within : (slots : List Slot) (h d g : ℕ) → HasSizes slots → d < length slots → holder (column slots g) d ≡ Some h → g < length (slot_at slots d).held
within slots h d g sizes lt e =
    let there = holds_there slots g d h e in
    let le = holder_within slots g d h e in
    let long = past_none (slot_at slots h).held g there.1 in
    let same = sizes.of_chain h d (omega (arith, le, lt)) lt there.0 in
    omega (arith, long, same)

reads_there : (slots : List Slot) (h d g : ℕ) → HasSizes slots → d < length slots → holder (column slots g) d ≡ Some h → reads_some slots h d ≡ true
reads_there slots h d g sizes lt e =
    any_below-there (λ z. is_at (holder (column slots z) d) h) (length (slot_at slots d).held) g (within slots h d g sizes lt e) (at_there (holder (column slots g) d) h e)

-- ---- who joins

abbrev has : List ℕ → ℕ → Bool
has places d = list_any (λ j. j == d) places

any_first : (test : ℕ → Bool) (x : ℕ) (xs : List ℕ) (b : Bool) → test x ≡ b → (list_any test xs ≡ true → (h : ℕ) × (has xs h ≡ true) × (test h ≡ true)) → (b || list_any test xs) ≡ true → (h : ℕ) × (has (x ∷ xs) h ≡ true) × (test h ≡ true)
any_first test x xs true is rest e = (x, or_left (x == x) (has xs x) (eq-eqb x x refl), is)
any_first test x xs false is rest e =
    let found = rest e in
    (found.0, or_right (x == found.0) (has xs found.0) found.1, found.2)

any_found : (test : ℕ → Bool) (xs : List ℕ) → list_any test xs ≡ true → (h : ℕ) × (has xs h ≡ true) × (test h ≡ true)
any_found test [] e = grind (arith, e)
any_found test (x ∷ xs) e = any_first test x xs (test x) refl (any_found test xs) e

any_by : (test : ℕ → Bool) (x h : ℕ) (rest there : Bool) → (b : Bool) → (x == h) ≡ b → test h ≡ true → (there ≡ true → rest ≡ true) → (b || there) ≡ true → (test x || rest) ≡ true
any_by test x h rest there true is e later here = or_left (test x) rest (ap test (eqb-true x h is) ∙ e)
any_by test x h rest there false is e later here = or_right (test x) rest (later here)

any_there : (test : ℕ → Bool) (xs : List ℕ) (h : ℕ) → has xs h ≡ true → test h ≡ true → list_any test xs ≡ true
any_there test [] h there e = there
any_there test (x ∷ xs) h there e = any_by test x h (list_any test xs) (has xs h) (x == h) refl e (λ t. any_there test xs h t e) there

-- what a dependent is read from first: the slot itself, or a dependent in front of it
FirstRead : List Slot → ℕ → ℕ → Type 0
FirstRead slots k d = (h : ℕ) × ((h ≡ k) ⊎ (IsDependent slots k h × (h < d))) × ReadsAt slots k h d

first_read : (slots : List Slot) (k d : ℕ) → IsDependent slots k d → FirstRead slots k d
unfolding FirstRead
first_read slots k d (direct r) = (k, inl refl, r)
first_read slots k d (onward {e = e} dep r) =
    elim (cases_eq e d) [
      | inl same ↦ let P : ℕ → Type 0 = λ x. FirstRead slots k x in subst P same (first_read slots k e dep)
      | inr other ↦ (e, inr (dep, omega (arith, holder_within slots r.grain d e r.reads, other)), r)
    ]

-- ---- the pass

-- of the places below `i` exactly the dependents have joined
record Passed (slots : List Slot) (k i : ℕ) (joined : List ℕ) : Type 0 where
  only : (d : ℕ) → has joined d ≡ true → IsDependent slots k d × (d < i)
  all : (d : ℕ) → IsDependent slots k d → d < i → has joined d ≡ true

read_at : (slots : List Slot) (k h i : ℕ) → i < length slots → (slot_at slots i).is_live ≡ true → not (i == k) ≡ true → reads_some slots h i ≡ true → ReadsAt slots k h i
read_at slots k h i lt live other e =
    let found = reads_found slots h i e in
    record { grain = found.0; there = lt; is_live = live; other = apart (i == k) refl other; reads = found.1 }
  where
    apart : (b : Bool) → (i == k) ≡ b → not b ≡ true → i ≡ k → ⊥
    apart true is e same = grind (arith, e)
    apart false is e same = eqb-false i k is same

dependent_by : (slots : List Slot) (k i : ℕ) (joined : List ℕ) (h : ℕ) (b : Bool) → (k == h) ≡ b → Passed slots k i joined → (b || has joined h) ≡ true → ReadsAt slots k h i → IsDependent slots k i
dependent_by slots k i joined h true is passed e r =
    let P : ℕ → Type 0 = λ x. ReadsAt slots k x i in direct (subst P (sym (eqb-true k h is)) r)
dependent_by slots k i joined h false is passed e r = onward (passed.only h e).0 r

joins_only : (slots : List Slot) (k i : ℕ) (joined : List ℕ) → Passed slots k i joined → i < length slots → joins_dependents slots k joined i ≡ true → IsDependent slots k i
joins_only slots k i joined passed lt e =
    let test = (slot_at slots i).is_live && not (i == k) in
    let some = list_any (λ h. reads_some slots h i) (k ∷ joined) in
    let alone : test ≡ true = first_of_both test some e in
    let found = any_found (λ h. reads_some slots h i) (k ∷ joined) (second_of_both test some e) in
    dependent_by slots k i joined found.0 (k == found.0) refl passed found.1
    (read_at slots k found.0 i lt (first_of_both (slot_at slots i).is_live (not (i == k)) alone) (second_of_both (slot_at slots i).is_live (not (i == k)) alone) found.2)

apart_not : (i k : ℕ) (b : Bool) → (i == k) ≡ b → (i ≡ k → ⊥) → not b ≡ true
apart_not i k true is other = absurd (other (eqb-true i k is))
apart_not i k false is other = refl

joins_by : (slots : List Slot) (k i : ℕ) (joined : List ℕ) (h : ℕ) → HasSizes slots → has (k ∷ joined) h ≡ true → ReadsAt slots k h i → joins_dependents slots k joined i ≡ true
joins_by slots k i joined h sizes there r =
    both ((slot_at slots i).is_live && not (i == k)) (list_any (λ x. reads_some slots x i) (k ∷ joined))
    (both (slot_at slots i).is_live (not (i == k)) r.is_live (apart_not i k (i == k) refl r.other))
    (any_there (λ x. reads_some slots x i) (k ∷ joined) h there (reads_there slots h i r.grain sizes r.there r.reads))

joins_all : (slots : List Slot) (k i : ℕ) (joined : List ℕ) → HasSizes slots → Passed slots k i joined → IsDependent slots k i → joins_dependents slots k joined i ≡ true
unfolding FirstRead
joins_all slots k i joined sizes passed dep =
    let read = first_read slots k i dep in
    joins_by slots k i joined read.0 sizes
    (elim read.1 [
      | inl same ↦ or_left (k == read.0) (has joined read.0) (eq-eqb k read.0 (sym same))
      | inr ahead ↦ or_right (k == read.0) (has joined read.0) (passed.all read.0 ahead.0 ahead.1)
    ])
    read.2

-- one more place
with_last : (joined : List ℕ) (i d : ℕ) → has (joined ++ i ∷ []) d ≡ (has joined d || ((i == d) || false))
with_last joined i d = list_any-append (λ j. j == d) joined (i ∷ [])

either : (a b : Bool) → (a || b) ≡ true → (a ≡ true) ⊎ (b ≡ true)
either true b e = inl refl
either false b e = inr e

only_last : (i d : ℕ) (b : Bool) → (b || false) ≡ true → b ≡ true
only_last i d true e = refl
only_last i d false e = e

stepped : (slots : List Slot) (k i : ℕ) (joined : List ℕ) (b : Bool) → HasSizes slots → Passed slots k i joined → i < length slots → joins_dependents slots k joined i ≡ b → Passed slots k (i + 1) (cond b (joined ++ i ∷ []) joined)
stepped slots k i joined true sizes passed lt is =
    let this : IsDependent slots k i = joins_only slots k i joined passed lt is in
    record {
      only = λ d e.
          elim (either (has joined d) ((i == d) || false) (sym (with_last joined i d) ∙ e)) [
            | inl before ↦ ((passed.only d before).0, omega (arith, (passed.only d before).1))
            | inr last ↦
                let same : i ≡ d = eqb-true i d (only_last i d (i == d) last) in
                let P : ℕ → Type 0 = λ x. IsDependent slots k x in (subst P same this, omega (arith, same))
          ];
      all = λ d dep below.
          with_last joined i d
          ∙ elim (cases_eq i d) [
            | inl same ↦ or_right (has joined d) ((i == d) || false) (or_left (i == d) false (eq-eqb i d same))
            | inr other ↦ or_left (has joined d) ((i == d) || false) (passed.all d dep (omega (arith, below, other)))
          ];
    }
stepped slots k i joined false sizes passed lt is =
    record {
      only = λ d e. ((passed.only d e).0, omega (arith, (passed.only d e).1));
      all = λ d dep below.
          elim (cases_eq d i) [
            | inl same ↦
                let P : ℕ → Type 0 = λ x. IsDependent slots k x in
                grind (arith, is, joins_all slots k i joined sizes passed (subst P same dep))
            | inr other ↦ passed.all d dep (omega (arith, below, other))
          ];
    }

step : List Slot → ℕ → List ℕ → ℕ → List ℕ
step slots k joined j = cond (joins_dependents slots k joined j) (joined ++ j ∷ []) joined

run : (slots : List Slot) (k n i : ℕ) (joined : List ℕ) → HasSizes slots → Passed slots k i joined → i + n ≡ length slots → Passed slots k (length slots) (fold (step slots k) joined (range_with_len i n))
unfolding step
run slots k zero i joined sizes passed e =
    let P : ℕ → Type 0 = λ x. Passed slots k x joined in let same : i ≡ length slots = omega (arith, e) in subst P same passed
run slots k (suc n) i joined sizes passed e =
    run slots k n (i + 1) (step slots k joined i) sizes
    (stepped slots k i joined (joins_dependents slots k joined i) sizes passed (omega (arith, e)) refl) (omega (arith, e))

nothing_passed : (slots : List Slot) (k : ℕ) → Passed slots k 0 []
nothing_passed slots k = record { only = λ d e. grind (arith, e); all = λ d dep below. grind (arith, below) }

-- ---- all places

place_there : (slots : List Slot) (k d : ℕ) → IsDependent slots k d → d < length slots
place_there slots k d (direct r) = r.there
place_there slots k d (onward dep r) = r.there

pub record AreDependents (slots : List Slot) (k : ℕ) (places : List ℕ) : Type 0 where
  pub only : (d : ℕ) → list_any (λ j. j == d) places ≡ true → IsDependent slots k d
  pub all : (d : ℕ) → IsDependent slots k d → list_any (λ j. j == d) places ≡ true

pub dependent_places-are : (slots : List Slot) (k : ℕ) → HasSizes slots → AreDependents slots k (dependent_places slots k)
unfolding step
dependent_places-are slots k sizes =
    let passed : Passed slots k (length slots) (dependent_places slots k) = run slots k (length slots) 0 [] sizes (nothing_passed slots k) (omega arith) in
    record { only = λ d e. (passed.only d e).0; all = λ d dep. passed.all d dep (place_there slots k d dep) }
