-- An old slot is unneeded where it is in every lane.
use Rattle.std.proofs.Common.{◌≡◌, ℕ, zero, suc, ◌+◌, ◌<◌, ◌≤◌, Bool, true, false, not, ◌&&◌, ◌||◌, cond, eqb, List, [], ◌∷◌, ◌++◌, length, map, fold, refl, sym, ap, ap₂, ◌∙◌, arith, inl, inr, append-nil}
use Rattle.std.specs.Prelude.{◌↔◌, ◌==◌, filter, Contains}
use Rattle.std.specs.List.{list_all, range_with_len}
use Rattle.std.proofs.lemmas.Bool.{cases_eq, and_parts, and_from, eq-eqb, eqb-true, ne_eqb}
use Rattle.std.proofs.lemmas.List.Elements.{filter-append}
use Rattle.std.proofs.lemmas.List.Folds.{sum_by-zero, list_all-append, list_any-append, list_any_at}
use Rattle.std.proofs.lemmas.List.FromFn.{map-range_with_len_more}
use Rattle.fc_base.specs.Counts.{names_below, need_count_of, is_unneeded}
use Rattle.fc_base.specs.Sheet.{Slot, Sheet, slot_at, slot_id}
use Rattle.fc_base.specs.SheetFacts.{HasNames}
use Rattle.fc_base.specs.declared.ids.SlotId.{SlotId}
use Rattle.fc_base.specs.declared.size.GrainSize.{GrainSize}
use Rattle.fc_parts.proofs.Views.{count_parts}
use Rattle.fc_sums.specs.Law.{UnneededLaw}
use Rattle.fc_sums.specs.Parts.{lane_of, part_of, parts_of, has_name, common, common_to, unneeded_in}
use Rattle.fc_sums.proofs.Dividing.{need_sum}
use Rattle.fc_sums.proofs.Reading.{same_when, or_last, live_part}
use Rattle.fc_sums.proofs.Slots.{slots_law}

-- ---- every lane

and_last : (a b : Bool) → (a && (b && true)) ≡ (a && b)
and_last true true = refl
and_last true false = refl
and_last false b = refl

all_step : {X : Type 0} → (test : X → Bool) (at : ℕ → X) (n : ℕ) → list_all test (map at (range_with_len 0 (suc n))) ≡ (list_all test (map at (range_with_len 0 n)) && test (at n))
all_step test at n =
    let e : suc n ≡ n + 1 = omega arith in
    ap (λ z. list_all test (map at (range_with_len 0 z))) e
    ∙ (ap (list_all test) (map-range_with_len_more at 0 n n (omega arith))
    ∙ (list_all-append test (map at (range_with_len 0 n)) (at n ∷ [])
    ∙ and_last (list_all test (map at (range_with_len 0 n))) (test (at n))))

each_listed : {X : Type 0} → (test : X → Bool) (at : ℕ → X) (n : ℕ) → list_all test (map at (range_with_len 0 n)) ≡ true → (i : ℕ) → i < n → test (at i) ≡ true
each_listed test at zero e i lt = absurd (omega arith)
each_listed test at (suc n) e i lt =
    let both = and_parts (list_all test (map at (range_with_len 0 n))) (test (at n)) (sym (all_step test at n) ∙ e) in
    elim (cases_eq i n) [
      | inl same ↦ ap (λ z. test (at z)) same ∙ both.1
      | inr other ↦ each_listed test at n both.0 i (omega arith)
    ]

all_listed : {X : Type 0} → (test : X → Bool) (at : ℕ → X) (n : ℕ) → ((i : ℕ) → i < n → test (at i) ≡ true) → list_all test (map at (range_with_len 0 n)) ≡ true
all_listed test at zero f = refl
all_listed test at (suc n) f =
    all_step test at n
    ∙ and_from (list_all test (map at (range_with_len 0 n))) (test (at n)) (all_listed test at n (λ i lt. f i (omega arith))) (f n (omega arith))

-- ---- the slots

zero_by_lanes : (grain : GrainSize) (lanes : ℕ) (s : Sheet) → 0 < lanes → (k : ℕ) → eqb (need_count_of s.slots k) 0 ≡ list_all (λ (p : Sheet). eqb (need_count_of p.slots k) 0) (parts_of grain lanes s)
zero_by_lanes grain lanes s above k =
    ap (λ z. eqb z 0) (sym (need_sum grain lanes s above k)) ∙ sum_by-zero (λ (p : Sheet). need_count_of p.slots k) (parts_of grain lanes s)

unneeded_in_lane : (grain : GrainSize) (lanes : ℕ) (s : Sheet) → 0 < lanes → (k : ℕ) → is_unneeded s.slots k ≡ true → (i : ℕ) → i < lanes → is_unneeded (part_of grain lanes s i).slots k ≡ true
unneeded_in_lane grain lanes s above k e i lt =
    let both = and_parts (not (slot_at s.slots k).is_live) (eqb (need_count_of s.slots k) 0) e in
    let zeros = each_listed (λ (p : Sheet). eqb (need_count_of p.slots k) 0) (part_of grain lanes s) lanes (sym (zero_by_lanes grain lanes s above k) ∙ both.1) i lt in
    and_from (not (slot_at (part_of grain lanes s i).slots k).is_live) (eqb (need_count_of (part_of grain lanes s i).slots k) 0)
    (ap not (live_part (lane_of grain lanes i) lt s.slots k) ∙ both.0) zeros

unneeded_of_lanes : (grain : GrainSize) (lanes : ℕ) (s : Sheet) → 0 < lanes → (k : ℕ) → ((i : ℕ) → i < lanes → is_unneeded (part_of grain lanes s i).slots k ≡ true) → is_unneeded s.slots k ≡ true
unneeded_of_lanes grain lanes s above k f =
    let parts_at = λ (i : ℕ) (lt : i < lanes). and_parts (not (slot_at (part_of grain lanes s i).slots k).is_live) (eqb (need_count_of (part_of grain lanes s i).slots k) 0) (f i lt) in
    and_from (not (slot_at s.slots k).is_live) (eqb (need_count_of s.slots k) 0)
    (ap not (sym (live_part (lane_of grain lanes 0) above s.slots k)) ∙ (parts_at 0 above).0)
    (zero_by_lanes grain lanes s above k ∙ all_listed (λ (p : Sheet). eqb (need_count_of p.slots k) 0) (part_of grain lanes s) lanes (λ i lt. (parts_at i lt).1))

unneeded_by_lanes : (grain : GrainSize) (lanes : ℕ) (s : Sheet) → 0 < lanes → (k : ℕ) → is_unneeded s.slots k ≡ list_all (λ (p : Sheet). is_unneeded p.slots k) (parts_of grain lanes s)
unneeded_by_lanes grain lanes s above k =
    let test : Sheet → Bool = λ p. is_unneeded p.slots k in
    same_when (is_unneeded s.slots k) (list_all test (parts_of grain lanes s))
    (λ e. all_listed test (part_of grain lanes s) lanes (unneeded_in_lane grain lanes s above k e))
    (λ e. unneeded_of_lanes grain lanes s above k (each_listed test (part_of grain lanes s) lanes e))

-- ---- names

has_step : (b : Bool) (xs : List SlotId) (x name : SlotId) → has_name (cond b (xs ++ x ∷ []) xs) name ≡ (has_name xs name || (b && (x.0 == name.0)))
has_step true xs x name = list_any-append (λ (n : SlotId). n.0 == name.0) xs (x ∷ []) ∙ or_last (has_name xs name) (x.0 == name.0)
has_step false xs x name = or_false (has_name xs name)
  where
    or_false : (a : Bool) → a ≡ (a || false)
    or_false true = refl
    or_false false = refl

abbrev pub AreApart : List Slot → Type 0
AreApart slots = (i j : ℕ) → i < length slots → j < length slots → (slot_at slots i).birth ≡ (slot_at slots j).birth → i ≡ j

other_name : (b c : Bool) → c ≡ false → (x : Bool) → (x || (b && c)) ≡ x
other_name true c e true = refl
other_name true c e false = e
other_name false c e true = refl
other_name false c e false = refl

own_name : (x b c : Bool) → x ≡ false → c ≡ true → (x || (b && c)) ≡ b
own_name x true c e f = rw e f
own_name x false c e f = rw e refl

name_past : (slots : List Slot) → AreApart slots → (test : ℕ → Bool) (n k : ℕ) → n ≤ k → k < length slots → has_name (names_below slots test n) (slot_id slots k) ≡ false
name_past slots apart test zero k le lt = refl
name_past slots apart test (suc n) k le lt =
    has_step (test n) (names_below slots test n) (slot_id slots n) (slot_id slots k)
    ∙ (other_name (test n) ((slot_id slots n).0 == (slot_id slots k).0)
    (ne_eqb (slot_id slots n).0 (slot_id slots k).0 (λ e. let same : n ≡ k = apart n k (omega arith) lt e in omega arith))
    (has_name (names_below slots test n) (slot_id slots k))
    ∙ name_past slots apart test n k (omega arith) lt)

pub name_at : (slots : List Slot) → AreApart slots → (test : ℕ → Bool) (n k : ℕ) → n ≤ length slots → k < n → has_name (names_below slots test n) (slot_id slots k) ≡ test k
name_at slots apart test zero k le lt = absurd (omega arith)
name_at slots apart test (suc n) k le lt =
    has_step (test n) (names_below slots test n) (slot_id slots n) (slot_id slots k)
    ∙ elim (cases_eq k n) [
      | inl same ↦ own_name (has_name (names_below slots test n) (slot_id slots k)) (test n) ((slot_id slots n).0 == (slot_id slots k).0)
          (name_past slots apart test n k (omega arith) (omega arith))
          (eq-eqb (slot_id slots n).0 (slot_id slots k).0 (ap (λ z. (slot_at slots z).birth) (sym same)))
          ∙ ap test (sym same)
      | inr other ↦ other_name (test n) ((slot_id slots n).0 == (slot_id slots k).0)
          (ne_eqb (slot_id slots n).0 (slot_id slots k).0 (λ e. other (sym (apart n k (omega arith) (omega arith) e))))
          (has_name (names_below slots test n) (slot_id slots k))
          ∙ name_at slots apart test n k (omega arith) (omega arith)
    ]

filter_step : (p : SlotId → Bool) (b c : Bool) (xs : List SlotId) (x : SlotId) → p x ≡ c → filter p (cond b (xs ++ x ∷ []) xs) ≡ cond (b && c) (filter p xs ++ x ∷ []) (filter p xs)
filter_step p true true xs x e = filter-append p xs (x ∷ []) ∙ ap (λ (b : Bool). filter p xs ++ cond b (x ∷ []) []) e
filter_step p true false xs x e = filter-append p xs (x ∷ []) ∙ (ap (λ (b : Bool). filter p xs ++ cond b (x ∷ []) []) e ∙ append-nil (filter p xs))
filter_step p false c xs x e = refl

names_filter : (slots : List Slot) (p : SlotId → Bool) (test other : ℕ → Bool) (n : ℕ) → ((k : ℕ) → k < n → p (slot_id slots k) ≡ other k) →
    filter p (names_below slots test n) ≡ names_below slots (λ k. test k && other k) n
names_filter slots p test other zero f = refl
names_filter slots p test other (suc n) f =
    filter_step p (test n) (other n) (names_below slots test n) (slot_id slots n) (f n (omega arith))
    ∙ ap (λ names. cond (test n && other n) (names ++ slot_id slots n ∷ []) names) (names_filter slots p test other n (λ k lt. f k (omega arith)))

names_common : (slots : List Slot) → AreApart slots → (test other : ℕ → Bool) →
    common (names_below slots test (length slots)) (names_below slots other (length slots)) ≡ names_below slots (λ k. test k && other k) (length slots)
names_common slots apart test other =
    names_filter slots (has_name (names_below slots other (length slots))) test other (length slots) (λ k lt. name_at slots apart other (length slots) k (omega arith) lt)

pub names_same : (slots others : List Slot) (test other : ℕ → Bool) (n : ℕ) → ((k : ℕ) → slot_id slots k ≡ slot_id others k) → ((k : ℕ) → test k ≡ other k) → names_below slots test n ≡ names_below others other n
names_same slots others test other zero f e = refl
names_same slots others test other (suc n) f e =
    ap₂ (λ (b : Bool) names. cond b (names ++ slot_id slots n ∷ []) names) (e n) (names_same slots others test other n f e)
    ∙ ap (λ name. cond (other n) (names_below others other n ++ name ∷ []) (names_below others other n)) (f n)

-- the names of a lane
unneeded_names : (grain : GrainSize) (lanes i : ℕ) (s : Sheet) → i < lanes → unneeded_in (part_of grain lanes s i).slots ≡ names_below s.slots (is_unneeded (part_of grain lanes s i).slots) (length s.slots)
unneeded_names grain lanes i s lt =
    let p : Sheet = part_of grain lanes s i in
    ap (names_below p.slots (is_unneeded p.slots)) (count_parts (lane_of grain lanes i) s.slots)
    ∙ names_same p.slots s.slots (is_unneeded p.slots) (is_unneeded p.slots) (length s.slots) (slots_law grain lanes i s lt).name (λ k. refl)

and_three : (a b c : Bool) → ((a && b) && c) ≡ (a && (b && c))
and_three true b c = refl
and_three false b c = refl

and_true : (a : Bool) → a ≡ (a && true)
and_true true = refl
and_true false = refl

-- the lanes from `a` on
abbrev rest_of : GrainSize → ℕ → Sheet → ℕ → ℕ → List Sheet
rest_of grain lanes s a m = map (part_of grain lanes s) (range_with_len a m)

abbrev passes_rest : GrainSize → ℕ → Sheet → ℕ → ℕ → ℕ → Bool
passes_rest grain lanes s a m k = list_all (λ (p : Sheet). is_unneeded p.slots k) (rest_of grain lanes s a m)

common_rest : (grain : GrainSize) (lanes : ℕ) (s : Sheet) → AreApart s.slots → (a m : ℕ) → a + m ≤ lanes → (test : ℕ → Bool) →
    fold common (names_below s.slots test (length s.slots)) (map (λ (p : Sheet). unneeded_in p.slots) (rest_of grain lanes s a m))
    ≡ names_below s.slots (λ k. test k && passes_rest grain lanes s a m k) (length s.slots)
common_rest grain lanes s apart a zero le test = names_same s.slots s.slots test (λ k. test k && true) (length s.slots) (λ k. refl) (λ k. and_true (test k))
common_rest grain lanes s apart a (suc m) le test =
    let u : ℕ → Bool = is_unneeded (part_of grain lanes s a).slots in
    let names : List SlotId = names_below s.slots test (length s.slots) in
    ap (λ xs. fold common xs (map (λ (p : Sheet). unneeded_in p.slots) (rest_of grain lanes s (a + 1) m)))
    (ap (common names) (unneeded_names grain lanes a s (omega arith)) ∙ names_common s.slots apart test u)
    ∙ (common_rest grain lanes s apart (a + 1) m (omega arith) (λ k. test k && u k)
    ∙ names_same s.slots s.slots (λ k. (test k && u k) && passes_rest grain lanes s (a + 1) m k) (λ k. test k && passes_rest grain lanes s a (suc m) k) (length s.slots) (λ k. refl)
    (λ k. and_three (test k) (u k) (passes_rest grain lanes s (a + 1) m k)))

names_by_lanes : (grain : GrainSize) (lanes : ℕ) (s : Sheet) → 0 < lanes → AreApart s.slots →
    common_to (map (λ (p : Sheet). unneeded_in p.slots) (parts_of grain lanes s)) ≡ names_below s.slots (λ k. passes_rest grain lanes s 0 lanes k) (length s.slots)
names_by_lanes grain zero s above apart = absurd (omega arith)
names_by_lanes grain (suc m) s above apart =
    ap (λ xs. fold common xs (map (λ (p : Sheet). unneeded_in p.slots) (rest_of grain (suc m) s 1 m))) (unneeded_names grain (suc m) 0 s above)
    ∙ common_rest grain (suc m) s apart 1 m (omega arith) (is_unneeded (part_of grain (suc m) s 0).slots)

pub unneeded_law : (grain : GrainSize) (lanes : ℕ) (s : Sheet) → 0 < lanes → HasNames s → UnneededLaw grain lanes s
unneeded_law grain lanes s above named = record {
  slot = unneeded_by_lanes grain lanes s above;
  names = names_by_lanes grain lanes s above named.apart
      ∙ names_same s.slots s.slots (λ k. passes_rest grain lanes s 0 lanes k) (is_unneeded s.slots) (length s.slots) (λ k. refl) (λ k. sym (unneeded_by_lanes grain lanes s above k));
}

-- ---- having a name

pub has_name_contains : (names : List SlotId) (name : SlotId) → (has_name names name ≡ true) ↔ Contains names name
has_name_contains names name = (found names, λ c. list_any_at (λ (n : SlotId). n.0 == name.0) names c.0 name c.1 (ap (λ (n : SlotId). n.0 == name.0) c.2 ∙ eq-eqb name.0 name.0 refl))
  where
    first : (x : SlotId) (xs : List SlotId) (b : Bool) → (x.0 == name.0) ≡ b → (has_name xs name ≡ true → Contains xs name) → (b || has_name xs name) ≡ true → Contains (x ∷ xs) name
    first x xs true is rest e = (0, omega arith, ap (λ z. let n : SlotId = record { 0 = z } in n) (eqb-true x.0 name.0 is))
    first x xs false is rest e = let f = rest e in (suc f.0, (let lt = f.1 in omega arith), f.2)

    found : (xs : List SlotId) → has_name xs name ≡ true → Contains xs name
    found [] e = absurd cc
    found (x ∷ xs) e = first x xs (x.0 == name.0) refl (found xs) e
