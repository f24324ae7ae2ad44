-- A plan lists what must move, step by step.
use Rattle.std.proofs.Common.{◌≡◌, ℕ, zero, suc, ◌-◌, ◌<◌, ◌≤◌, Bool, true, false, eqb, Option, Some, None, List, [], ◌∷◌, ◌++◌, length, get_or, map, reverse, filter, filter_map, refl, sym, ap, subst, ◌∙◌, arith, ◌⊎◌, inl, inr, length-append}
use Rattle.std.specs.List.{list_any}
use Rattle.std.proofs.lemmas.Bool.{cases_Bool, both_ways, eqb-true, eq-eqb, or_cases, or_left, or_right, false_from_ne_true, and_from, and_left}
use Rattle.std.proofs.lemmas.List.{map-append}
use mathlib.Core.List.{reverse-cons, reverse-reverse}
use Rattle.fc_base.specs.declared.request.Move.{Move}
use Rattle.fc_base.specs.Column.{Column, needer, is_old_of, old_slots}
use Rattle.fc_base.specs.Moves.{is_in, is_in_place, asks, list_with_asked}
use Rattle.fc_base.specs.Plan.{move_at}
use Rattle.fc_base.specs.Sheet.{Slot, slot_at, shape_of, column}
use Rattle.fc_places.specs.Olds.{old_after, IsNextOld, HasApartBirths}
use Rattle.fc_chain.specs.Planning.{IsPlanned, HasRoom}
use Rattle.fc_moves.proofs.Search.{cases_option}
use Rattle.fc_moves.proofs.Readers.{is_reader_none}
use Rattle.fc_moves.proofs.Members.{in_cases, in_head, in_tail, not_in_nil, asks_out_of_place, no_asks_in_place}
use Rattle.fc_moves.proofs.Listing.{list_all, list_zero, list_again, list_new}
use Rattle.fc_moves.proofs.Lists.{in_reverse, in_reversed}
use Rattle.fc_places.proofs.Olds.{places_same}
use Rattle.fc_slots.proofs.Finds.{read_at}

-- ---- what is listed

listed_to : (slots : List Slot) (g number b : ℕ) (ks : List ℕ) → list_any (λ (m : Move). eqb m.slot.0 b) (map (move_at slots g number) ks) ≡ true → (k : ℕ) × (is_in k ks ≡ true) × ((slot_at slots k).birth ≡ b)
listed_to slots g number b [] e = absurd cc
listed_to slots g number b (k ∷ ks) e =
    elim (or_cases (eqb (slot_at slots k).birth b) _ e) [
      | inl p ↦ (k, in_head k k ks refl, eqb-true _ _ p)
      | inr q ↦ let r = listed_to slots g number b ks q in (r.0, in_tail r.0 k ks r.1, r.2)
    ]

listed_from : (slots : List Slot) (g number b : ℕ) (ks : List ℕ) (k : ℕ) → is_in k ks ≡ true → (slot_at slots k).birth ≡ b → list_any (λ (m : Move). eqb m.slot.0 b) (map (move_at slots g number) ks) ≡ true
listed_from slots g number b [] k e q = absurd (not_in_nil k e)
listed_from slots g number b (j ∷ ks) k e q =
    elim (in_cases k j ks e) [
      | inl p ↦ or_left (eqb (slot_at slots j).birth b) _ (eq-eqb _ _ (ap (λ z. (slot_at slots z).birth) (sym p) ∙ q))
      | inr r ↦ or_right (eqb (slot_at slots j).birth b) _ (listed_from slots g number b ks k r q)
    ]

pub listed_is : (slots : List Slot) (g number place : ℕ) (moves : List Move) (listed : List ℕ) → HasApartBirths slots → place < length slots → IsPlanned slots g number moves listed →
    list_any (λ (m : Move). eqb m.slot.0 (slot_at slots place).birth) moves ≡ is_in place listed
listed_is slots g number place moves listed apart pl p =
    let b : ℕ = (slot_at slots place).birth in
    let e : list_any (λ (m : Move). eqb m.slot.0 b) moves ≡ list_any (λ (m : Move). eqb m.slot.0 b) (map (move_at slots g number) (reverse listed)) = ap (list_any (λ (m : Move). eqb m.slot.0 b)) p.moves_are in
    elim (cases_Bool (is_in place listed)) [
      | inl t ↦ e ∙ (listed_from slots g number b (reverse listed) place (in_reverse place listed t) refl ∙ sym t)
      | inr f ↦ e ∙ (false_from_ne_true _ (λ t.
          let r = listed_to slots g number b (reverse listed) t in
          let i = in_reversed r.0 listed r.1 in
          let same : r.0 ≡ place = apart r.0 place (p.there r.0 i) pl r.2 in
          both_ways _ f (ap (λ z. is_in z listed) (sym same) ∙ i)) ∙ sym f)
    ]

-- ---- a plan tells its list

same_moves : (slots : List Slot) (g number : ℕ) (ks js : List ℕ) → HasApartBirths slots → ((k : ℕ) → is_in k ks ≡ true → k < length slots) → ((k : ℕ) → is_in k js ≡ true → k < length slots) →
    map (move_at slots g number) ks ≡ map (move_at slots g number) js → ks ≡ js
same_moves slots g number [] [] apart a b e = refl
same_moves slots g number [] (j ∷ js) apart a b e = absurd cc
same_moves slots g number (k ∷ ks) [] apart a b e = absurd cc
same_moves slots g number (k ∷ ks) (j ∷ js) apart a b e =
    let h : move_at slots g number k ≡ move_at slots g number j = cc in
    let r : map (move_at slots g number) ks ≡ map (move_at slots g number) js = cc in
    let same : k ≡ j = apart k j (a k (in_head k k ks refl)) (b j (in_head j j js refl)) (ap (λ (m : Move). m.slot.0) h) in
    ap (λ z. z ∷ ks) same ∙ ap (λ z. j ∷ z) (same_moves slots g number ks js apart (λ x i. a x (in_tail x k ks i)) (λ x i. b x (in_tail x j js i)) r)

pub one_list : (slots : List Slot) (g number : ℕ) (moves : List Move) (a b : List ℕ) → HasApartBirths slots → IsPlanned slots g number moves a → IsPlanned slots g number moves b → a ≡ b
one_list slots g number moves a b apart p q =
    sym (reverse-reverse a) ∙ (ap reverse (same_moves slots g number (reverse a) (reverse b) apart (λ k i. p.there k (in_reversed k a i)) (λ k i. q.there k (in_reversed k b i)) (sym p.moves_are ∙ q.moves_are)) ∙ reverse-reverse b)

pub planned_more : (slots : List Slot) (g number place : ℕ) (moves : List Move) (done : List ℕ) → place < length slots → IsPlanned slots g number moves done →
    IsPlanned slots g number (moves ++ move_at slots g number place ∷ []) (place ∷ done)
planned_more slots g number place moves done pl p =
    record {
      moves_are = ap (λ z. z ++ move_at slots g number place ∷ []) p.moves_are ∙ (sym (map-append (move_at slots g number) (reverse done) (place ∷ [])) ∙ ap (map (move_at slots g number)) (sym (reverse-cons place done)));
      there = λ k i. elim (in_cases k place done i) [ inl e ↦ omega arith | inr r ↦ p.there k r ];
    }

length_map : (slots : List Slot) (g number : ℕ) (ks : List ℕ) → length (map (move_at slots g number) ks) ≡ length ks
length_map slots g number [] = refl
length_map slots g number (k ∷ ks) = ap suc (length_map slots g number ks)

count_reverse : (ks : List ℕ) → length (reverse ks) ≡ length ks
count_reverse [] = refl
count_reverse (k ∷ ks) = ap length (reverse-cons k ks) ∙ (length-append (reverse ks) (k ∷ []) ∙ (let e : length (reverse ks) ≡ length ks = count_reverse ks in omega arith))

pub planned_length : (slots : List Slot) (g number : ℕ) (moves : List Move) (done : List ℕ) → IsPlanned slots g number moves done → length moves ≡ length done
planned_length slots g number moves done p = ap length p.moves_are ∙ (length_map slots g number (reverse done) ∙ count_reverse done)

-- ---- lists grow

abbrev pub Longer : Column → ℕ → Type 0
Longer c depth = (m : ℕ) (listed : List ℕ) → length listed ≤ length (list_with_asked c depth m listed)

pub all_longer : (c : Column) (depth : ℕ) → Longer c depth → (roots listed : List ℕ) → length listed ≤ length (list_all c depth roots listed)
all_longer c depth ih [] listed = omega arith
all_longer c depth ih (a ∷ as') listed =
    let x : length listed ≤ length (list_with_asked c depth a listed) = ih a listed in
    let y : length (list_with_asked c depth a listed) ≤ length (list_all c depth as' (list_with_asked c depth a listed)) = all_longer c depth ih as' (list_with_asked c depth a listed) in
    omega arith

longer_step : (c : Column) (depth : ℕ) → Longer c depth → Longer c (suc depth)
longer_step c depth ih m listed =
    elim (cases_Bool (is_in m listed)) [
      | inl t ↦ (let e : length (list_with_asked c (suc depth) m listed) ≡ length listed = ap length (list_again c (suc depth) m listed t) in omega arith)
      | inr f ↦ (let e : length (list_with_asked c (suc depth) m listed) ≡ suc (length (list_all c depth (asks c m) listed)) = ap length (list_new c depth m listed f) in
          let y : length listed ≤ length (list_all c depth (asks c m) listed) = all_longer c depth ih (asks c m) listed in omega arith)
    ]

pub longer : (c : Column) (depth : ℕ) → Longer c depth
longer c zero m listed = let e : length (list_with_asked c zero m listed) ≡ length listed = ap length (list_zero c m listed) in omega arith
longer c (suc depth) m listed = longer_step c depth (longer c depth) m listed

-- ---- what is asked for, by the old slots in turn

abbrev pub readers : Column → List ℕ → List ℕ
readers c os = filter_map (needer c) os

needer_none : (c : Column) (o : ℕ) → c.held o ≡ false → needer c o ≡ None
needer_none c o f = is_reader_none c o o (λ k kc l ne i. both_ways _ f i.holds)

readers_held : (c : Column) (os : List ℕ) → filter_map (needer c) (filter c.held os) ≡ readers c os
readers_held c [] = refl
readers_held c (o ∷ os) =
    elim (cases_Bool (c.held o)) [
      | inl t ↦ let e : filter c.held (o ∷ os) ≡ o ∷ filter c.held os = rw t refl in
          ap (filter_map (needer c)) e ∙ readers_cons c o (filter c.held os) os (readers_held c os)
      | inr f ↦ let e : filter c.held (o ∷ os) ≡ filter c.held os = rw f refl in
          let n : needer c o ≡ None = needer_none c o f in
          let q : readers c (o ∷ os) ≡ readers c os = rw n refl in
          ap (filter_map (needer c)) e ∙ (readers_held c os ∙ sym q)
    ]
  where
    readers_cons : (c : Column) (o : ℕ) (xs ys : List ℕ) → readers c xs ≡ readers c ys → readers c (o ∷ xs) ≡ readers c (o ∷ ys)
    readers_cons c o xs ys e =
        elim (cases_option (needer c o)) [
          | inl n ↦ let p : readers c (o ∷ xs) ≡ readers c xs = rw n refl in let q : readers c (o ∷ ys) ≡ readers c ys = rw n refl in p ∙ (e ∙ sym q)
          | inr s ↦ let p : readers c (o ∷ xs) ≡ s.0 ∷ readers c xs = rw s.1 refl in let q : readers c (o ∷ ys) ≡ s.0 ∷ readers c ys = rw s.1 refl in p ∙ (ap (λ z. s.0 ∷ z) e ∙ sym q)
        ]

pub all_old : (slots : List Slot) (v : ℕ) → old_after slots v None ≡ old_slots (shape_of slots) v
unfolding old_slots
all_old slots v = places_same (shape_of slots).birth _ _ (length slots) (λ j jl. elim (cases_Bool (is_old_of (shape_of slots) v j)) [ inl t ↦ and_from _ _ t refl ∙ sym t | inr f ↦ and_left _ true f ∙ sym f ])

pub asks_are : (slots : List Slot) (g m : ℕ) → is_in_place (column slots g) m ≡ false → asks (column slots g) m ≡ readers (column slots g) (old_after slots (slot_at slots m).volume None)
asks_are slots g m f =
    let c : Column = column slots g in
    asks_out_of_place c m f ∙ (readers_held c (old_slots c.shape (slot_at slots m).volume) ∙ ap (readers c) (sym (all_old slots (slot_at slots m).volume)))

-- ---- the loop over the old slots

pub record AddedSoFar (slots : List Slot) (g number depth place : ℕ) (first moves : List Move) (room volume : ℕ) (after : Option ℕ) : Type 0 where
  pub begun : List ℕ
  pub done : List ℕ
  pub start : IsPlanned slots g number first begun
  pub planned : IsPlanned slots g number moves done
  pub rest : list_all (column slots g) (depth - 1) (readers (column slots g) (old_after slots volume None)) begun ≡ list_all (column slots g) (depth - 1) (readers (column slots g) (old_after slots volume after)) done
  pub fits : length (list_with_asked (column slots g) depth place begun) ≤ room

pub added_none : (slots : List Slot) (g number depth place : ℕ) (moves : List Move) (room volume : ℕ) → HasRoom slots g number moves room depth place → AddedSoFar slots g number depth place moves moves room volume None
added_none slots g number depth place moves room volume h =
    record { begun = h.listed; done = h.listed; start = h.planned; planned = h.planned; rest = refl; fits = h.fits }

-- an old slot that nobody needs
pub added_skip : (slots : List Slot) (g number depth place : ℕ) (first moves : List Move) (room volume : ℕ) (after : Option ℕ) (o : ℕ) → AddedSoFar slots g number depth place first moves room volume after →
    IsNextOld slots volume after o → None ≡ needer (column slots g) o → AddedSoFar slots g number depth place first moves room volume (Some (slot_at slots o).birth)
added_skip slots g number depth place first moves room volume after o a n e =
    let c : Column = column slots g in
    let later : List ℕ = old_after slots volume (Some (slot_at slots o).birth) in
    let q : readers c (o ∷ later) ≡ readers c later = rw (sym e) refl in
    record {
      begun = a.begun;
      done = a.done;
      start = a.start;
      planned = a.planned;
      fits = a.fits;
      rest = a.rest ∙ ap (λ z. list_all c (depth - 1) z a.done) (ap (readers c) n.rest ∙ q);
    }

added_step : (slots : List Slot) (g number depth place : ℕ) (first moves : List Move) (room volume : ℕ) (after : Option ℕ) (o r : ℕ) → (a : AddedSoFar slots g number depth place first moves room volume after) →
    IsNextOld slots volume after o → Some r ≡ needer (column slots g) o →
    list_all (column slots g) (depth - 1) (readers (column slots g) (old_after slots volume None)) a.begun ≡
    list_all (column slots g) (depth - 1) (readers (column slots g) (old_after slots volume (Some (slot_at slots o).birth))) (list_with_asked (column slots g) (depth - 1) r a.done)
added_step slots g number depth place first moves room volume after o r a n e =
    let c : Column = column slots g in
    let later : List ℕ = old_after slots volume (Some (slot_at slots o).birth) in
    let q : readers c (o ∷ later) ≡ r ∷ readers c later = rw (sym e) refl in
    a.rest ∙ ap (λ z. list_all c (depth - 1) z a.done) (ap (readers c) n.rest ∙ q)

pub added_more : (slots : List Slot) (g number depth place : ℕ) (first moves new : List Move) (room volume : ℕ) (after : Option ℕ) (o r : ℕ) → AddedSoFar slots g number depth place first moves room volume after →
    IsNextOld slots volume after o → Some r ≡ needer (column slots g) o →
    ((listed : List ℕ) → IsPlanned slots g number moves listed → IsPlanned slots g number new (list_with_asked (column slots g) (depth - 1) r listed)) →
    AddedSoFar slots g number depth place first new room volume (Some (slot_at slots o).birth)
added_more slots g number depth place first moves new room volume after o r a n e filled =
    record {
      begun = a.begun;
      done = list_with_asked (column slots g) (depth - 1) r a.done;
      start = a.start;
      planned = filled a.done a.planned;
      fits = a.fits;
      rest = added_step slots g number depth place first moves room volume after o r a n e;
    }

-- the whole list is the slot and all that it asks for
whole : (slots : List Slot) (g depth place : ℕ) (begun : List ℕ) → 0 < depth → is_in place begun ≡ false → is_in_place (column slots g) place ≡ false →
    list_with_asked (column slots g) depth place begun ≡ place ∷ list_all (column slots g) (depth - 1) (readers (column slots g) (old_after slots (slot_at slots place).volume None)) begun
whole slots g zero place begun lt n f = absurd (omega arith)
whole slots g (suc depth) place begun lt n f =
    let d : suc depth - 1 ≡ depth = omega arith in
    list_new (column slots g) depth place begun n ∙
    (ap (λ z. place ∷ list_all (column slots g) depth z begun) (asks_are slots g place f) ∙
    ap (λ z. place ∷ list_all (column slots g) z (readers (column slots g) (old_after slots (slot_at slots place).volume None)) begun) (sym d))

pub room_inside : (slots : List Slot) (g number depth place : ℕ) (first moves : List Move) (room : ℕ) (after : Option ℕ) (o r : ℕ) → (a : AddedSoFar slots g number depth place first moves room (slot_at slots place).volume after) →
    0 < depth → is_in place a.begun ≡ false → is_in_place (column slots g) place ≡ false → IsNextOld slots (slot_at slots place).volume after o → Some r ≡ needer (column slots g) o → HasRoom slots g number moves room (depth - 1) r
room_inside slots g number depth place first moves room after o r a lt n f next e =
    let c : Column = column slots g in
    let v : ℕ = (slot_at slots place).volume in
    let inner : List ℕ = list_with_asked c (depth - 1) r a.done in
    let total : List ℕ = list_all c (depth - 1) (readers c (old_after slots v (Some (slot_at slots o).birth))) inner in
    let grows : length inner ≤ length total = all_longer c (depth - 1) (longer c (depth - 1)) (readers c (old_after slots v (Some (slot_at slots o).birth))) inner in
    let e2 : length (list_with_asked c depth place a.begun) ≡ suc (length total) = ap length (whole slots g depth place a.begun lt n f) ∙ ap (λ (z : List ℕ). suc (length z)) (added_step slots g number depth place first moves room v after o r a next e) in
    let le : length (list_with_asked c depth place a.begun) ≤ room = a.fits in
    record { listed = a.done; planned = a.planned; fits = omega arith }

-- ---- the answers

pub answer_again : (slots : List Slot) (g number depth place : ℕ) (moves : List Move) → HasApartBirths slots → place < length slots → (depth ≡ 0) ⊎ (list_any (λ (m : Move). eqb m.slot.0 (slot_at slots place).birth) moves ≡ true) →
    (listed : List ℕ) → IsPlanned slots g number moves listed → IsPlanned slots g number moves (list_with_asked (column slots g) depth place listed)
answer_again slots g number depth place moves apart pl w listed p =
    let same : list_with_asked (column slots g) depth place listed ≡ listed = elim w [
      | inl z ↦ ap (λ d. list_with_asked (column slots g) d place listed) z ∙ list_zero (column slots g) place listed
      | inr t ↦ list_again (column slots g) depth place listed (sym (listed_is slots g number place moves listed apart pl p) ∙ t)
    ] in
    subst (λ (z : List ℕ). IsPlanned slots g number moves z) (sym same) p

pub not_listed : (slots : List Slot) (g number place : ℕ) (moves : List Move) (listed : List ℕ) → HasApartBirths slots → place < length slots → IsPlanned slots g number moves listed →
    list_any (λ (m : Move). eqb m.slot.0 (slot_at slots place).birth) moves ≡ false → is_in place listed ≡ false
not_listed slots g number place moves listed apart pl p f = sym (listed_is slots g number place moves listed apart pl p) ∙ f

in_place_list : (c : Column) (depth place : ℕ) (listed : List ℕ) → 0 < depth → is_in place listed ≡ false → is_in_place c place ≡ true → list_with_asked c depth place listed ≡ place ∷ listed
in_place_list c zero place listed lt n t = absurd (omega arith)
in_place_list c (suc depth) place listed lt n t = list_new c depth place listed n ∙ ap (λ z. place ∷ list_all c depth z listed) (no_asks_in_place c place t)

pub answer_in_place : (slots : List Slot) (g number depth place : ℕ) (moves : List Move) → HasApartBirths slots → place < length slots → 0 < depth → list_any (λ (m : Move). eqb m.slot.0 (slot_at slots place).birth) moves ≡ false → is_in_place (column slots g) place ≡ true →
    (listed : List ℕ) → IsPlanned slots g number moves listed → IsPlanned slots g number (moves ++ move_at slots g number place ∷ []) (list_with_asked (column slots g) depth place listed)
answer_in_place slots g number depth place moves apart pl lt f t listed p =
    subst (λ (z : List ℕ). IsPlanned slots g number (moves ++ move_at slots g number place ∷ []) z) (sym (in_place_list (column slots g) depth place listed lt (not_listed slots g number place moves listed apart pl p f) t))
    (planned_more slots g number place moves listed pl p)

pub room_in_place : (slots : List Slot) (g number depth place : ℕ) (moves : List Move) (room : ℕ) → HasApartBirths slots → place < length slots → 0 < depth → list_any (λ (m : Move). eqb m.slot.0 (slot_at slots place).birth) moves ≡ false → is_in_place (column slots g) place ≡ true →
    HasRoom slots g number moves room depth place → length moves < room
room_in_place slots g number depth place moves room apart pl lt f t h =
    let e : length (list_with_asked (column slots g) depth place h.listed) ≡ suc (length h.listed) = ap length (in_place_list (column slots g) depth place h.listed lt (not_listed slots g number place moves h.listed apart pl h.planned f) t) in
    let q : length moves ≡ length h.listed = planned_length slots g number moves h.listed h.planned in
    let le : length (list_with_asked (column slots g) depth place h.listed) ≤ room = h.fits in
    omega arith

all_done : (slots : List Slot) (g number depth place : ℕ) (first moves : List Move) (room : ℕ) (after : Option ℕ) → (a : AddedSoFar slots g number depth place first moves room (slot_at slots place).volume after) →
    0 < depth → is_in place a.begun ≡ false → is_in_place (column slots g) place ≡ false → old_after slots (slot_at slots place).volume after ≡ [] → list_with_asked (column slots g) depth place a.begun ≡ place ∷ a.done
all_done slots g number depth place first moves room after a lt n f none =
    whole slots g depth place a.begun lt n f ∙ ap (λ z. place ∷ z) (a.rest ∙ ap (λ z. list_all (column slots g) (depth - 1) (readers (column slots g) z) a.done) none)

pub answer_added : (slots : List Slot) (g number depth place : ℕ) (first moves : List Move) (room : ℕ) (after : Option ℕ) → HasApartBirths slots → place < length slots → AddedSoFar slots g number depth place first moves room (slot_at slots place).volume after →
    0 < depth → list_any (λ (m : Move). eqb m.slot.0 (slot_at slots place).birth) first ≡ false → is_in_place (column slots g) place ≡ false → old_after slots (slot_at slots place).volume after ≡ [] →
    (listed : List ℕ) → IsPlanned slots g number first listed → IsPlanned slots g number (moves ++ move_at slots g number place ∷ []) (list_with_asked (column slots g) depth place listed)
answer_added slots g number depth place first moves room after apart pl a lt f out none listed p =
    let same : listed ≡ a.begun = one_list slots g number first listed a.begun apart p a.start in
    let e : list_with_asked (column slots g) depth place listed ≡ place ∷ a.done =
    ap (list_with_asked (column slots g) depth place) same ∙ all_done slots g number depth place first moves room after a lt (not_listed slots g number place first a.begun apart pl a.start f) out none in
    subst (λ (z : List ℕ). IsPlanned slots g number (moves ++ move_at slots g number place ∷ []) z) (sym e) (planned_more slots g number place moves a.done pl a.planned)

pub room_added : (slots : List Slot) (g number depth place : ℕ) (first moves : List Move) (room : ℕ) (after : Option ℕ) → HasApartBirths slots → place < length slots → AddedSoFar slots g number depth place first moves room (slot_at slots place).volume after →
    0 < depth → list_any (λ (m : Move). eqb m.slot.0 (slot_at slots place).birth) first ≡ false → is_in_place (column slots g) place ≡ false → old_after slots (slot_at slots place).volume after ≡ [] → length moves < room
room_added slots g number depth place first moves room after apart pl a lt f out none =
    let e : length (list_with_asked (column slots g) depth place a.begun) ≡ suc (length a.done) = ap length (all_done slots g number depth place first moves room after a lt (not_listed slots g number place first a.begun apart pl a.start f) out none) in
    let q : length moves ≡ length a.done = planned_length slots g number moves a.done a.planned in
    let le : length (list_with_asked (column slots g) depth place a.begun) ≤ room = a.fits in
    omega arith

-- ---- from what the calls answered

pub lists_as : (slots : List Slot) (place : ℕ) (moves now : List Move) (t : Slot) (b : ℕ) (r v : Bool) → place < length slots → t ≡ get_or slots place t → b ≡ t.birth → now ≡ moves →
    r ≡ list_any (λ (m : Move). eqb m.slot.0 b) now → r ≡ v → list_any (λ (m : Move). eqb m.slot.0 (slot_at slots place).birth) moves ≡ v
lists_as slots place moves now t b r v pl et eb en er ev =
    let s : b ≡ (slot_at slots place).birth = eb ∙ ap (λ (x : Slot). x.birth) (sym (read_at slots place t pl et)) in
    ap (λ z. list_any (λ (m : Move). eqb m.slot.0 z) moves) (sym s) ∙ (ap (list_any (λ (m : Move). eqb m.slot.0 b)) (sym en) ∙ (sym er ∙ ev))

pub added_at : (slots : List Slot) (g number depth place : ℕ) (first moves : List Move) (room v : ℕ) (after : Option ℕ) (t : Slot) → place < length slots → t ≡ get_or slots place t → v ≡ t.volume →
    AddedSoFar slots g number depth place first moves room v after → AddedSoFar slots g number depth place first moves room (slot_at slots place).volume after
added_at slots g number depth place first moves room v after t pl et ev a =
    subst (λ (z : ℕ). AddedSoFar slots g number depth place first moves room z after) (ev ∙ ap (λ (x : Slot). x.volume) (sym (read_at slots place t pl et))) a

pub volume_at : (slots : List Slot) (place v : ℕ) (t : Slot) → place < length slots → t ≡ get_or slots place t → v ≡ t.volume → v ≡ (slot_at slots place).volume
volume_at slots place v t pl et ev = ev ∙ ap (λ (x : Slot). x.volume) (sym (read_at slots place t pl et))

pub room_for_reader : (slots : List Slot) (g number depth place : ℕ) (first moves : List Move) (room now v : ℕ) (after : Option ℕ) (o r : ℕ) → HasApartBirths slots → place < length slots → v ≡ (slot_at slots place).volume → now ≡ room →
    AddedSoFar slots g number depth place first moves room v after → 0 < depth → list_any (λ (m : Move). eqb m.slot.0 (slot_at slots place).birth) first ≡ false → is_in_place (column slots g) place ≡ false →
    IsNextOld slots v after o → Some r ≡ needer (column slots g) o → HasRoom slots g number moves now (depth - 1) r
room_for_reader slots g number depth place first moves room now v after o r apart pl ev er a lt f out next e =
    let a' : AddedSoFar slots g number depth place first moves room (slot_at slots place).volume after = subst (λ (z : ℕ). AddedSoFar slots g number depth place first moves room z after) ev a in
    let n' : IsNextOld slots (slot_at slots place).volume after o = subst (λ (z : ℕ). IsNextOld slots z after o) ev next in
    subst (λ (z : ℕ). HasRoom slots g number moves z (depth - 1) r) (sym er)
    (room_inside slots g number depth place first moves room after o r a' lt (not_listed slots g number place first a'.begun apart pl a'.start f) out n' e)

pub room_at_end : (slots : List Slot) (g number depth place : ℕ) (first moves : List Move) (room now v : ℕ) (after : Option ℕ) → HasApartBirths slots → place < length slots → v ≡ (slot_at slots place).volume → now ≡ room →
    AddedSoFar slots g number depth place first moves room v after → 0 < depth → list_any (λ (m : Move). eqb m.slot.0 (slot_at slots place).birth) first ≡ false → is_in_place (column slots g) place ≡ false →
    old_after slots v after ≡ [] → length moves < now
room_at_end slots g number depth place first moves room now v after apart pl ev er a lt f out none =
    let a' : AddedSoFar slots g number depth place first moves room (slot_at slots place).volume after = subst (λ (z : ℕ). AddedSoFar slots g number depth place first moves room z after) ev a in
    let r : length moves < room = room_added slots g number depth place first moves room after apart pl a' lt f out (ap (λ z. old_after slots z after) (sym ev) ∙ none) in
    omega arith

pub answer_at_end : (slots : List Slot) (g number depth place : ℕ) (first moves : List Move) (room v : ℕ) (after : Option ℕ) → HasApartBirths slots → place < length slots → v ≡ (slot_at slots place).volume →
    AddedSoFar slots g number depth place first moves room v after → 0 < depth → list_any (λ (m : Move). eqb m.slot.0 (slot_at slots place).birth) first ≡ false → is_in_place (column slots g) place ≡ false →
    old_after slots v after ≡ [] → (listed : List ℕ) → IsPlanned slots g number first listed → IsPlanned slots g number (moves ++ move_at slots g number place ∷ []) (list_with_asked (column slots g) depth place listed)
answer_at_end slots g number depth place first moves room v after apart pl ev a lt f out none =
    let a' : AddedSoFar slots g number depth place first moves room (slot_at slots place).volume after = subst (λ (z : ℕ). AddedSoFar slots g number depth place first moves room z after) ev a in
    answer_added slots g number depth place first moves room after apart pl a' lt f out (ap (λ z. old_after slots z after) (sym ev) ∙ none)
