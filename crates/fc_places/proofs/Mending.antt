-- A list whose entries are of slots, each before the next, and as many as there are slots with a key, lists all of these.
use Rattle.std.proofs.Common.{◌≡◌, ◌≢◌, ℕ, zero, suc, ◌+◌, ◌-◌, ◌<◌, ◌≤◌, Bool, true, cond, eqb, ltb, is_some, Some, List, [], ◌∷◌, length, refl, sym, ap, subst, ◌∙◌, arith, ◌⊎◌, inl, inr}
use Rattle.std.proofs.lemmas.Bool.{cases_Bool, cases_eq, cases_order, eq-eqb, ne_eqb, eqb-true, ltb-true, lt-ltb, le-ltb, or_cases, and_parts, both_ways}
use Rattle.fc_base.specs.Counts.{count_below}
use Rattle.fc_base.specs.Sheet.{Slot, slot_at}
use Rattle.fc_places.proofs.Sorting.{listings_step, listings_none}
use Rattle.fc_places.specs.declared.index.By.{By}
use Rattle.fc_places.specs.declared.index.Entry.{Entry}
use Rattle.fc_places.specs.Indexing.{key_at, entry_at, listings, IsListed, AreRising, IsIndexOf, is_before, FitsAt, has_key}

-- ---- places and how often they are listed

once_listed : (k : ℕ) (xs : List Entry) → ((i j : ℕ) → i < j → j < length xs → (entry_at xs i).place ≢ (entry_at xs j).place) → listings k xs ≤ 1
once_listed k [] apart = omega arith
once_listed k (x ∷ xs) apart =
    let ih : listings k xs ≤ 1 = once_listed k xs (λ i j ij jl. apart (suc i) (suc j) (omega arith) (omega arith)) in
    elim (cases_eq x.place k) [
      | inl same ↦
          let none : listings k xs ≡ 0 = listings_none k xs (λ i il e. apart 0 (suc i) (omega arith) (omega arith) (same ∙ sym e)) in
          let one : cond {A = ℕ} (eqb x.place k) 1 0 ≡ 1 = ap (λ b. cond {A = ℕ} b 1 0) (eq-eqb x.place k same) in
          omega (arith, listings_step k x xs)
      | inr ne ↦
          let none : cond {A = ℕ} (eqb x.place k) 1 0 ≡ 0 = ap (λ b. cond {A = ℕ} b 1 0) (ne_eqb x.place k ne) in
          omega (arith, listings_step k x xs)
    ]

listed_once : (k : ℕ) (xs : List Entry) → 1 ≤ listings k xs → IsListed xs k
listed_once k [] some = absurd (omega arith)
listed_once k (x ∷ xs) some =
    elim (cases_eq x.place k) [
      | inl same ↦ (0, omega arith, same)
      | inr ne ↦
          let none : cond {A = ℕ} (eqb x.place k) 1 0 ≡ 0 = ap (λ b. cond {A = ℕ} b 1 0) (ne_eqb x.place k ne) in
          let rest = listed_once k xs (omega (arith, listings_step k x xs)) in
          (suc rest.0, (let lt = rest.1 in omega arith), rest.2)
    ]

-- how often the places below a bound are listed
abbrev below : List Entry → ℕ → ℕ
below entries zero = 0
below entries (suc n) = below entries n + listings n entries

below_none : (n : ℕ) → below [] n ≡ 0
below_none zero = refl
below_none (suc n) = omega (arith, below_none n)

below_more : (x : Entry) (xs : List Entry) (n : ℕ) → below (x ∷ xs) n ≡ cond {A = ℕ} (ltb x.place n) 1 0 + below xs n
below_more x xs zero = ap (λ b. cond {A = ℕ} b 1 0 + 0) (sym (le-ltb x.place 0 (omega arith)))
below_more x xs (suc n) =
    let ih : below (x ∷ xs) n ≡ cond {A = ℕ} (ltb x.place n) 1 0 + below xs n = below_more x xs n in
    let here : cond {A = ℕ} (ltb x.place n) 1 0 + cond {A = ℕ} (eqb x.place n) 1 0 ≡ cond {A = ℕ} (ltb x.place (suc n)) 1 0 =
    elim (cases_order x.place n) [
      | inl e ↦ rw (le-ltb x.place n (omega arith), eq-eqb x.place n e, lt-ltb x.place (suc n) (omega arith)) refl
      | inr r ↦ elim r [
        | inl lt ↦ rw (lt-ltb x.place n lt, ne_eqb x.place n (λ e. omega arith), lt-ltb x.place (suc n) (omega arith)) refl
        | inr gt ↦ rw (le-ltb x.place n (omega arith), ne_eqb x.place n (λ e. omega arith), le-ltb x.place (suc n) (omega arith)) refl
      ]
    ] in
    omega (arith, listings_step n x xs)

all_below : (entries : List Entry) (n : ℕ) → ((i : ℕ) → i < length entries → (entry_at entries i).place < n) → below entries n ≡ length entries
all_below [] n inside = below_none n
all_below (x ∷ xs) n inside =
    let ih : below xs n ≡ length xs = all_below xs n (λ i il. inside (suc i) (omega arith)) in
    let one : cond {A = ℕ} (ltb x.place n) 1 0 ≡ 1 = ap (λ b. cond {A = ℕ} b 1 0) (lt-ltb x.place n (inside 0 (omega arith))) in
    omega (arith, below_more x xs n)

-- places that pass a test, each listed at most once, and no others: where as many are listed as pass it, each of them is
module _ (entries : List Entry) (test : ℕ → Bool) (few : (k : ℕ) → listings k entries ≤ cond {A = ℕ} (test k) 1 0) where
  count_step : (n : ℕ) → count_below test (suc n) ≡ count_below test n + cond {A = ℕ} (test n) 1 0
  count_step n = elim (cases_Bool (test n)) [ inl t ↦ rw t refl | inr f ↦ rw f (omega arith) ]

  below_few : (n : ℕ) → below entries n ≤ count_below test n
  below_few zero = omega arith
  below_few (suc n) = omega (arith, below_few n, few n, count_step n)

  each_below : (n k : ℕ) → count_below test n ≤ below entries n → k < n → test k ≡ true → 1 ≤ listings k entries
  each_below zero k le kn t = absurd (omega arith)
  each_below (suc n) k le kn t =
      elim (cases_eq k n) [
        | inl e ↦
            let one : cond {A = ℕ} (test n) 1 0 ≡ 1 = ap (λ z. cond {A = ℕ} (test z) 1 0) (sym e) ∙ ap (λ b. cond {A = ℕ} b 1 0) t in
            subst (λ z. 1 ≤ listings z entries) (sym e) (omega (arith, below_few n, count_step n, one))
        | inr ne ↦ each_below n k (omega (arith, few n, count_step n)) (omega arith) t
      ]

-- ---- entries in order

abbrev Precedes : Entry → Entry → Type 0
Precedes a b = (a.key < b.key) ⊎ ((a.key ≡ b.key) × (a.birth < b.birth))

precedes : (a b : Entry) → is_before b.key b.birth a ≡ true → Precedes a b
precedes a b t =
    elim (or_cases (ltb a.key b.key) _ t) [
      | inl l ↦ inl (ltb-true a.key b.key l)
      | inr r ↦ (let p = and_parts (eqb a.key b.key) (ltb a.birth b.birth) r in inr (eqb-true a.key b.key p.0, ltb-true a.birth b.birth p.1))
    ]

precedes_then : (a b c : Entry) → Precedes a b → Precedes b c → Precedes a c
precedes_then a b c (inl x) (inl y) = inl (omega arith)
precedes_then a b c (inl x) (inr (e, y)) = inl (omega arith)
precedes_then a b c (inr (e, x)) (inl y) = inl (omega arith)
precedes_then a b c (inr (e, x)) (inr (q, y)) = inr (e ∙ q, omega arith)

some_is : (a b : ℕ) → Some a ≡ Some b → a ≡ b
some_is a b e = cc

module _ (slots : List Slot) (by : By) (entries : List Entry) (fit : (i : ℕ) → i < length entries → FitsAt slots by entries i) where
  in_order : (i j : ℕ) → i < j → j < length entries → Precedes (entry_at entries i) (entry_at entries j)
  in_order i zero ij jl = absurd (omega arith)
  in_order i (suc j) ij jl =
      let here : Entry = entry_at entries (suc j) in
      let back : suc j - 1 ≡ j = omega arith in
      let next : Precedes (entry_at entries j) here = precedes (entry_at entries j) here (subst (λ z. is_before here.key here.birth (entry_at entries z) ≡ true) back ((fit (suc j) jl).after (omega arith))) in
      elim (cases_eq i j) [
        | inl e ↦ subst (λ z. Precedes (entry_at entries z) (entry_at entries (suc j))) (sym e) next
        | inr ne ↦ precedes_then (entry_at entries i) (entry_at entries j) (entry_at entries (suc j)) (in_order i j (omega arith) (omega arith)) next
      ]

  are_rising : AreRising entries
  are_rising i j le jl =
      elim (cases_eq i j) [
        | inl e ↦ inr (ap (λ z. (entry_at entries z).key) e, omega (arith, ap (λ z. (entry_at entries z).birth) e))
        | inr ne ↦ elim (in_order i j (omega arith) jl) [ inl lt ↦ inl lt | inr r ↦ inr (r.0, (let lt = r.1 in omega arith)) ]
      ]

  are_apart : (i j : ℕ) → i < j → j < length entries → (entry_at entries i).place ≢ (entry_at entries j).place
  are_apart i j ij jl e =
      let a = (fit i (omega arith)).own in
      let b = (fit j jl).own in
      let key : (entry_at entries i).key ≡ (entry_at entries j).key = some_is _ _ (sym a.key ∙ ap (λ z. key_at by (slot_at slots z)) e ∙ b.key) in
      let birth : (entry_at entries i).birth ≡ (entry_at entries j).birth = a.birth ∙ ap (λ z. (slot_at slots z).birth) e ∙ sym b.birth in
      elim (in_order i j ij jl) [ inl lt ↦ omega arith | inr r ↦ (let lt = r.1 in omega arith) ]

  few_listed : (k : ℕ) → listings k entries ≤ cond {A = ℕ} (has_key slots by k) 1 0
  few_listed k =
      elim (cases_Bool (has_key slots by k)) [
        | inl t ↦ (let one : cond {A = ℕ} (has_key slots by k) 1 0 ≡ 1 = ap (λ b. cond {A = ℕ} b 1 0) t in omega (arith, once_listed k entries are_apart))
        | inr f ↦
            let none : listings k entries ≡ 0 = listings_none k entries (λ i il e.
            both_ways (has_key slots by k) f (ap is_some (ap (λ z. key_at by (slot_at slots z)) (sym e) ∙ (fit i il).own.key))) in
            omega arith
      ]

  lists_all : length entries ≡ count_below (has_key slots by) (length slots) → IsIndexOf slots by entries
  lists_all count =
      let whole : below entries (length slots) ≡ length entries = all_below entries (length slots) (λ i il. (fit i il).own.there) in
      record {
        only = λ i il. (fit i il).own;
        each = λ k x kl e. listed_once k entries (each_below entries (has_key slots by) few_listed (length slots) k (omega arith) kl (ap is_some e));
        once = λ k. once_listed k entries are_apart;
        rising = are_rising;
      }

-- what the test of a mended list tells
pub mended : (slots : List Slot) (by : By) (now items : List Entry) (n count : ℕ) → now ≡ items → n ≡ length now → count ≡ count_below (has_key slots by) (length slots) →
    ((i : ℕ) → i < length now → FitsAt slots by now i) → eqb n count ≡ true → IsIndexOf slots by items
mended slots by now items n count same long counted fit t =
    lists_all slots by items (subst (λ z. (i : ℕ) → i < length z → FitsAt slots by z i) same fit) (sym (ap length same) ∙ sym long ∙ eqb-true n count t ∙ counted)
