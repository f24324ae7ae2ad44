-- The slot of a mapping and the live slot of a volume are the first in the list that pass a test.
use Rattle.std.proofs.Common.{◌≡◌, ◌∙◌, sym, ap, ℕ, zero, suc, Bool, true, false, cond, ◌&&◌, eqb, List, [], ◌∷◌, length, remove, insert, slice_set, slice_index_or, Option, Some, None, option_map, refl, arith}
use Rattle.std.specs.List.{find, filter}
use Rattle.fc_base.specs.Column.{first_below, is_at}
use Rattle.fc_base.specs.Sheet.{Slot, slot_at, live_place, mapping_place}
use Rattle.fc_base.specs.SheetView.{held_at, held_of}
use Rattle.fc_base.specs.declared.state.MapState.{MapState}
use Rattle.fc_base.specs.declared.state.MapState.TheVariants.{Empty, IdleOrCopied, Preparing, Prepared, Copying, Stopping, Stopped}
use Rattle.fc_base.specs.declared.volume.Mapping.{Mapping}
use Rattle.fc_books.specs.Sound.{SlotByState, HasSlot}

-- ---- the first that passes

next : Option ℕ → Bool → ℕ → Option ℕ
next (Some k) b n = Some k
next None b n = cond b (Some n) None

next_is : (o : Option ℕ) (b : Bool) (n : ℕ) → elim o [ Some k ↦ Some k | None ↦ cond b (Some n) None ] ≡ next o b n
unfolding next
next_is None b n = refl
next_is (Some k) b n = refl

first_next : (test : ℕ → Bool) (n : ℕ) → first_below test (suc n) ≡ next (first_below test n) (test n) n
unfolding first_below
first_next test n = next_is (first_below test n) (test n) n

front : Bool → Option ℕ → Option ℕ
front true o = Some 0
front false None = None
front false (Some k) = Some (suc k)

front_next : (a : Bool) (o : Option ℕ) (b : Bool) (n : ℕ) → next (front a o) b (suc n) ≡ front a (next o b n)
unfolding next front
front_next true o b n = refl
front_next false None true n = refl
front_next false None false n = refl
front_next false (Some k) b n = refl

front_none : (a : Bool) → next None a 0 ≡ front a None
unfolding next front
front_none true = refl
front_none false = refl

first_none : (test : ℕ → Bool) → first_below test 0 ≡ None
unfolding first_below
first_none test = refl

first_front : (test : ℕ → Bool) (n : ℕ) → first_below test (suc n) ≡ front (test 0) (first_below (λ k. test (suc k)) n)
first_front test zero = first_next test 0 ∙ ap (λ o. next o (test 0) 0) (first_none test) ∙ front_none (test 0) ∙ ap (front (test 0)) (sym (first_none (λ k. test (suc k))))
first_front test (suc n) =
    first_next test (suc n)
    ∙ ap (λ o. next o (test (suc n)) (suc n)) (first_front test n)
    ∙ front_next (test 0) (first_below (λ k. test (suc k)) n) (test (suc n)) n
    ∙ ap (front (test 0)) (sym (first_next (λ k. test (suc k)) n))

at_front : (s : Slot) (ss : List Slot) (b : Bool) (o : Option ℕ) → option_map (slot_at (s ∷ ss)) (front b o) ≡ cond b (Some s) (option_map (slot_at ss) o)
unfolding front
at_front s ss true o = refl
at_front s ss false None = refl
at_front s ss false (Some k) = refl

first_found : (test : Slot → Bool) (slots : List Slot) → option_map (slot_at slots) (first_below (λ k. test (slot_at slots k)) (length slots)) ≡ find test slots
first_found test [] = ap (option_map (slot_at [])) (first_none (λ k. test (slot_at [] k)))
first_found test (s ∷ ss) =
    ap (option_map (slot_at (s ∷ ss))) (first_front (λ k. test (slot_at (s ∷ ss) k)) (length ss))
    ∙ at_front s ss (test s) (first_below (λ k. test (slot_at ss k)) (length ss))
    ∙ ap (λ o. cond (test s) (Some s) o) (first_found test ss)

-- ---- the two tests

abbrev pub is_of : ℕ → Slot → Bool
is_of m s = is_at s.mapping m

abbrev pub is_live_of : ℕ → Slot → Bool
is_live_of v s = s.is_live && eqb s.volume v

pub mapping_found : (slots : List Slot) (m : ℕ) → option_map (slot_at slots) (mapping_place slots m) ≡ find (is_of m) slots
unfolding mapping_place
mapping_found slots m = first_found (is_of m) slots

pub live_found : (slots : List Slot) (v : ℕ) → option_map (slot_at slots) (live_place slots v) ≡ find (is_live_of v) slots
unfolding live_place
live_found slots v = first_found (is_live_of v) slots

abbrev pub held_in : Option Slot → List Bool
held_in None = []
held_in (Some s) = s.held

held_there : (slots : List Slot) (o : Option ℕ) → held_at slots o ≡ held_in (option_map (slot_at slots) o)
held_there slots None = refl
held_there slots (Some k) = refl

pub held_found : (slots : List Slot) (m : ℕ) → held_of slots m ≡ held_in (find (is_of m) slots)
held_found slots m = held_there slots (mapping_place slots m) ∙ ap held_in (mapping_found slots m)

-- A mapping whose slot is found the same holds the same.
pub held_same : (slots other : List Slot) (m : ℕ) → find (is_of m) other ≡ find (is_of m) slots → held_of other m ≡ held_of slots m
held_same slots other m same = held_found other m ∙ ap held_in same ∙ sym (held_found slots m)

-- ---- what is found in a list that changes

pub found_passes : {X : Type 0} (test : X → Bool) (xs : List X) (x : X) → find test xs ≡ Some x → test x ≡ true
found_passes test [] x e = grind (arith, e)
found_passes test (y ∷ ys) x e = by (test y) refl e (found_passes test ys x)
  where
    by : (b : Bool) → test y ≡ b → cond b (Some y) (find test ys) ≡ Some x → (find test ys ≡ Some x → test x ≡ true) → test x ≡ true
    by true is e rest = let same : y ≡ x = cc in ap test (sym same) ∙ is
    by false is e rest = rest e

passed_over : {X : Type 0} (test : X → Bool) (x : X) (xs : List X) → test x ≡ false → find test (x ∷ xs) ≡ find test xs
passed_over test x xs e = ap (λ b. cond b (Some x) (find test xs)) e

pub found-remove : {X : Type 0} (test : X → Bool) (xs : List X) (k : ℕ) (d : X) → test (slice_index_or xs k d) ≡ false → find test (remove xs k) ≡ find test xs
found-remove test [] zero d e = refl
found-remove test [] (suc k) d e = refl
found-remove test (x ∷ xs) zero d e = sym (passed_over test x xs e)
found-remove test (x ∷ xs) (suc k) d e = ap (λ o. cond (test x) (Some x) o) (found-remove test xs k d e)

pub found-set : {X : Type 0} (test : X → Bool) (xs : List X) (k : ℕ) (y d : X) → test (slice_index_or xs k d) ≡ false → test y ≡ false → find test (slice_set xs k y) ≡ find test xs
found-set test [] k y d e f = refl
found-set test (x ∷ xs) zero y d e f = passed_over test y xs f ∙ sym (passed_over test x xs e)
found-set test (x ∷ xs) (suc k) y d e f = ap (λ o. cond (test x) (Some x) o) (found-set test xs k y d e f)

pub found-insert : {X : Type 0} (test : X → Bool) (xs : List X) (k : ℕ) (y : X) → test y ≡ false → find test (insert xs k y) ≡ find test xs
found-insert test [] zero y f = passed_over test y [] f
found-insert test [] (suc k) y f = passed_over test y [] f
found-insert test (x ∷ xs) zero y f = passed_over test y (x ∷ xs) f
found-insert test (x ∷ xs) (suc k) y f = ap (λ o. cond (test x) (Some x) o) (found-insert test xs k y f)

pub found-insert_new : {X : Type 0} (test : X → Bool) (xs : List X) (k : ℕ) (y : X) → test y ≡ true → find test xs ≡ None → find test (insert xs k y) ≡ Some y
found-insert_new test [] zero y f none = ap (λ b. cond b (Some y) None) f
found-insert_new test [] (suc k) y f none = ap (λ b. cond b (Some y) None) f
found-insert_new test (x ∷ xs) zero y f none = ap (λ b. cond b (Some y) (find test (x ∷ xs))) f
found-insert_new test (x ∷ xs) (suc k) y f none = by (test x) none (found-insert_new test xs k y f)
  where
    by : (b : Bool) {o found : Option _} → cond b (Some x) o ≡ None → (o ≡ None → found ≡ Some y) → cond b (Some x) found ≡ Some y
    by true e rest = absurd cc
    by false e rest = rest e

-- one kept item among those that are found
pub found-filter : {X : Type 0} (test keep : X → Bool) (xs : List X) → ((x : X) → test x ≡ true → keep x ≡ true) → find test (filter keep xs) ≡ find test xs
found-filter test keep [] kept = refl
found-filter test keep (x ∷ xs) kept = by (test x) (keep x) refl refl (found-filter test keep xs kept)
  where
    by : (a b : Bool) → test x ≡ a → keep x ≡ b → find test (filter keep xs) ≡ find test xs → find test (cond b (x ∷ filter keep xs) (filter keep xs)) ≡ cond a (Some x) (find test xs)
    by a true is_a is_b rest = ap (λ t. cond t (Some x) (find test (filter keep xs))) is_a ∙ ap (λ o. cond a (Some x) o) rest
    by false false is_a is_b rest = rest
    by true false is_a is_b rest = grind (arith, is_b, kept x is_a)

-- ---- the slot of a mapping is set

place_front : (s : Slot) (ss : List Slot) (m : ℕ) → mapping_place (s ∷ ss) m ≡ front (is_of m s) (mapping_place ss m)
unfolding mapping_place
place_front s ss m = first_front (λ k. is_at (slot_at (s ∷ ss) k).mapping m) (length ss)

no_place : (m : ℕ) → mapping_place [] m ≡ None
unfolding mapping_place
no_place m = first_none (λ k. is_at (slot_at [] k).mapping m)

set_by : (s : Slot) (ss : List Slot) (m k : ℕ) (y : Slot) (b : Bool) (o : Option ℕ) → is_of m s ≡ b → front b o ≡ Some k → is_of m y ≡ true → ((j : ℕ) → o ≡ Some j → find (is_of m) (slice_set ss j y) ≡ Some y) → find (is_of m) (slice_set (s ∷ ss) k y) ≡ Some y
unfolding front
set_by s ss m zero y true o is e passes rest = ap (λ b. cond b (Some y) (find (is_of m) ss)) passes
set_by s ss m (suc k) y true o is e passes rest = grind (arith, e)
set_by s ss m k y false None is e passes rest = absurd cc
set_by s ss m zero y false (Some j) is e passes rest = grind (arith, e)
set_by s ss m (suc k) y false (Some j) is e passes rest =
    let same : j ≡ k = cc in
    ap (λ b. cond b (Some s) (find (is_of m) (slice_set ss k y))) is ∙ rest k (ap Some same)

pub found-set_first : (slots : List Slot) (m k : ℕ) (y : Slot) → mapping_place slots m ≡ Some k → is_of m y ≡ true → find (is_of m) (slice_set slots k y) ≡ Some y
found-set_first [] m k y e passes = let none = no_place m in absurd cc
found-set_first (s ∷ ss) m k y e passes = set_by s ss m k y (is_of m s) (mapping_place ss m) refl (sym (place_front s ss m) ∙ e) passes (λ j there. found-set_first ss m j y there passes)

-- ---- the slot of a mapping is one of its target

the_place : (slots : List Slot) (m : Mapping) (is_live : Bool) (k : ℕ) → HasSlot slots m is_live → mapping_place slots m.id.0 ≡ Some k → (slot_at slots k).volume ≡ m.target.0
the_place slots m is_live k has e =
    let same : Some has.place ≡ Some k = sym has.is_there ∙ e in
    let place : has.place ≡ k = cc in ap (λ j. (slot_at slots j).volume) (sym place) ∙ has.of_target

pub slot_of_target : (state : MapState) (slots : List Slot) (m : Mapping) (k : ℕ) → SlotByState state slots m → mapping_place slots m.id.0 ≡ Some k → (slot_at slots k).volume ≡ m.target.0
slot_of_target Copying slots m k has e = the_place slots m true k has e
slot_of_target Stopping slots m k has e = the_place slots m false k has e
slot_of_target Empty slots m k none e = grind (arith, none, e)
slot_of_target IdleOrCopied slots m k none e = grind (arith, none, e)
slot_of_target Preparing slots m k none e = grind (arith, none, e)
slot_of_target Prepared slots m k none e = grind (arith, none, e)
slot_of_target Stopped slots m k none e = grind (arith, none, e)
