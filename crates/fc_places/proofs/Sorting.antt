-- Lists of places in order: what a sort leaves, and what a search in them finds.
use Rattle.std.proofs.Common.{◌≡◌, ◌≢◌, ℕ, zero, suc, ◌+◌, ◌-◌, ◌<◌, ◌≤◌, true, false, not, ◌&&◌, cond, eqb, ltb, Option, Some, None, List, [], ◌∷◌, ◌++◌, length, get_or, refl, sym, ap, subst, ◌∙◌, arith, ◌⊎◌, inl, inr, length-append, IsPermutation, Ordering, IfSome, take, drop, get_or-take, get_or-drop, length-drop, length-take-le}
use Rattle.std.proofs.lemmas.List.{take-append-le, take_all}
use Rattle.std.specs.List.{Contains}
use Rattle.std.proofs.lemmas.List.Sums.{sum_by-cons}
use Rattle.std.specs.List.Sorted.{IsSorted}
use Rattle.std.specs.Ordering.{nat_cmp, on, then_cmp, is_lt}
use Rattle.std.specs.Cmp.{IsTotalOrder}
use Rattle.std.proofs.lemmas.Bool.{cases_lt, cases_eq, cases_order, both_ways, eq-eqb, ne_eqb, eqb-true, ltb-true, lt-ltb, le-ltb, and_parts, and_left, and_right, or_cases, or_left, false_from_ne_true}
use Rattle.std.proofs.lemmas.Cmp.{nat_cmp_total, on_total, then_total}
use Rattle.std.proofs.lemmas.List.Sorted.{sorted_far, ranks_by, Contains-permutation, sum_by-IsPermutation, IsPermutation-sym, length_permutation}
use Rattle.std.proofs.lemmas.List.Elements.{Contains-get_or, Contains-append_left, Contains-push, Contains-push_cases}
use Rattle.fc_base.specs.Sheet.{Slot, slot_at, shape_of, birth_place, mapping_place, live_place}
use Rattle.fc_base.specs.SheetFacts.{HasMappings}
use Rattle.fc_base.specs.RestoreGraph.{HasOneLive}
use Rattle.fc_places.specs.Olds.{HasApartBirths, NextOld}
use Rattle.fc_moves.proofs.Search.{first_is, first_is_none}
use Rattle.fc_sheets.proofs.Finding.{live_place_is, mapping_place_is, no_mapping_place}
use Rattle.fc_base.specs.Column.{is_old_of}
use Rattle.fc_base.specs.Counts.{LiveBehind, UsedAt}
use Rattle.fc_slots.specs.Births.{is_after}
use Rattle.fc_places.proofs.Olds.{is_old_after, least_found}
use Rattle.fc_slots.proofs.Finds.{read_at}
use Rattle.fc_places.specs.declared.index.By.{By}
use Rattle.fc_places.specs.declared.index.By.TheVariants.{Birth, Mapping, Volume}
use Rattle.fc_places.specs.declared.index.Entry.{Entry}
use Rattle.fc_places.specs.Indexing.{key_at, no_entry, entry_at, listings, IsEntryOf, IsListed, AreRising, IsIndexOf, ListsBelow, is_before, IsFirstFrom, FoundKey, ListsVolume}

-- ---- the order of entries

abbrev pub entry_cmp : Entry → Entry → Ordering
entry_cmp = then_cmp (on (λ (e : Entry). e.key) nat_cmp) (then_cmp (on (λ (e : Entry). e.birth) nat_cmp) (on (λ (e : Entry). e.place) nat_cmp))

entry_total : IsTotalOrder entry_cmp
entry_total = then_total (on_total (λ (e : Entry). e.key) nat_cmp_total) (then_total (on_total (λ (e : Entry). e.birth) nat_cmp_total) (on_total (λ (e : Entry). e.place) nat_cmp_total))

less_key : (a b : Entry) → a.key < b.key → is_lt (entry_cmp a b) ≡ true
less_key a b lt = rw (lt-ltb a.key b.key lt) refl

less_birth : (a b : Entry) → a.key ≡ b.key → a.birth < b.birth → is_lt (entry_cmp a b) ≡ true
less_birth a b e lt = rw (le-ltb a.key b.key (omega arith), eq-eqb a.key b.key e, lt-ltb a.birth b.birth lt) refl

not_less : (a b : Entry) → is_lt (entry_cmp a b) ≡ false → (b.key < a.key) ⊎ ((b.key ≡ a.key) × (b.birth ≤ a.birth))
not_less a b f =
    elim (cases_order a.key b.key) [
      | inr r ↦ elim r [ inl lt ↦ absurd (both_ways _ f (less_key a b lt)) | inr gt ↦ inl gt ]
      | inl e ↦ elim (cases_lt a.birth b.birth) [ inl lt ↦ absurd (both_ways _ f (less_birth a b e lt)) | inr ge ↦ inr (sym e, ge) ]
    ]

pub rising_of : (xs : List Entry) → IsSorted entry_cmp xs → AreRising xs
rising_of xs up i j le lt = not_less (entry_at xs j) (entry_at xs i) (sorted_far (λ (x y : Entry). is_lt (entry_cmp x y)) (ranks_by entry_total (λ (x : Entry). x)) xs up i j no_entry le lt)

-- ---- listing

pub lists_none : (slots : List Slot) (by : By) → ListsBelow slots by 0 []
lists_none slots by = record { short = omega arith; only = λ i lt. absurd (omega arith); each = λ k x lt e. absurd (omega arith); below = λ i lt. absurd (omega arith); once = λ k. omega arith }

listed_in : (entries : List Entry) (e : Entry) → Contains entries e → IsListed entries e.place
listed_in entries e c =
    let lt : c.0 < length entries = c.1 in
    (c.0, lt, ap (λ (z : Entry). z.place) (at_default entries c.0 no_entry e lt ∙ c.2))
  where
    at_default : (xs : List Entry) (i : ℕ) (d e : Entry) → i < length xs → get_or xs i d ≡ get_or xs i e
    at_default [] i d e lt = absurd (omega arith)
    at_default (x ∷ xs) zero d e lt = refl
    at_default (x ∷ xs) (suc i) d e lt = at_default xs i d e (omega arith)

is_entry : (slots : List Slot) (by : By) (entries : List Entry) (e : Entry) → ((i : ℕ) → i < length entries → IsEntryOf slots by (entry_at entries i)) → Contains entries e → IsEntryOf slots by e
is_entry slots by entries e f c =
    let lt : c.0 < length entries = c.1 in
    let P : Entry → Type 0 = λ z. IsEntryOf slots by z in
    subst P (at_default entries c.0 no_entry e lt ∙ c.2) (f c.0 lt)
  where
    at_default : (xs : List Entry) (i : ℕ) (d e : Entry) → i < length xs → get_or xs i d ≡ get_or xs i e
    at_default [] i d e lt = absurd (omega arith)
    at_default (x ∷ xs) zero d e lt = refl
    at_default (x ∷ xs) (suc i) d e lt = at_default xs i d e (omega arith)

still_listed : (entries more : List Entry) (k : ℕ) → IsListed entries k → IsListed (entries ++ more) k
still_listed entries more k l =
    let P : ℕ → Type 0 = λ z. IsListed (entries ++ more) z in
    subst P l.2 (listed_in (entries ++ more) (entry_at entries l.0) (Contains-append_left entries more (entry_at entries l.0) (Contains-get_or entries l.0 no_entry l.1)))

-- how often a place is listed
pub listings_step : (k : ℕ) (x : Entry) (xs : List Entry) → listings k (x ∷ xs) ≡ cond {A = ℕ} (eqb x.place k) 1 0 + listings k xs
listings_step k x xs = sum_by-cons (λ (e : Entry). cond {A = ℕ} (eqb e.place k) 1 0) x xs

listings_push : (k : ℕ) (entries : List Entry) (e : Entry) → listings k (entries ++ e ∷ []) ≡ listings k entries + cond {A = ℕ} (eqb e.place k) 1 0
listings_push k [] e = omega (arith, listings_step k e [])
listings_push k (x ∷ xs) e = let ih : listings k (xs ++ e ∷ []) ≡ listings k xs + cond {A = ℕ} (eqb e.place k) 1 0 = listings_push k xs e in omega (arith, listings_step k x (xs ++ e ∷ []), listings_step k x xs)

pub listings_none : (k : ℕ) (entries : List Entry) → ((i : ℕ) → i < length entries → (entry_at entries i).place ≢ k) → listings k entries ≡ 0
listings_none k [] f = refl
listings_none k (x ∷ xs) f =
    let ih : listings k xs ≡ 0 = listings_none k xs (λ i il. f (suc i) (omega arith)) in
    let none : cond {A = ℕ} (eqb x.place k) 1 0 ≡ 0 = ap (λ b. cond {A = ℕ} b 1 0) (ne_eqb x.place k (f 0 (omega arith))) in
    omega (arith, listings_step k x xs)

listings_one : (k : ℕ) (entries : List Entry) (i : ℕ) → i < length entries → (entry_at entries i).place ≡ k → 1 ≤ listings k entries
listings_one k [] i lt e = absurd (omega arith)
listings_one k (x ∷ xs) zero lt e = let one : cond {A = ℕ} (eqb x.place k) 1 0 ≡ 1 = ap (λ b. cond {A = ℕ} b 1 0) (eq-eqb x.place k e) in omega (arith, listings_step k x xs)
listings_one k (x ∷ xs) (suc i) lt e = let ih : 1 ≤ listings k xs = listings_one k xs i (omega arith) e in omega (arith, listings_step k x xs)

listings_two : (k : ℕ) (entries : List Entry) (i j : ℕ) → i < j → j < length entries → (entry_at entries i).place ≡ k → (entry_at entries j).place ≡ k → 2 ≤ listings k entries
listings_two k [] i j ij lt e q = absurd (omega arith)
listings_two k (x ∷ xs) i zero ij lt e q = absurd (omega arith)
listings_two k (x ∷ xs) zero (suc j) ij lt e q =
    let one : cond {A = ℕ} (eqb x.place k) 1 0 ≡ 1 = ap (λ b. cond {A = ℕ} b 1 0) (eq-eqb x.place k e) in
    let more : 1 ≤ listings k xs = listings_one k xs j (omega arith) q in
    omega (arith, listings_step k x xs)
listings_two k (x ∷ xs) (suc i) (suc j) ij lt e q = let ih : 2 ≤ listings k xs = listings_two k xs i j (omega arith) (omega arith) e q in omega (arith, listings_step k x xs)

place_below : (entries : List Entry) (p : ℕ) (e : Entry) → ((i : ℕ) → i < length entries → (entry_at entries i).place < p) → Contains entries e → e.place < p
place_below entries p e f c =
    let l = listed_in entries e c in
    let a : (entry_at entries l.0).place < p = f l.0 l.1 in
    let b : (entry_at entries l.0).place ≡ e.place = l.2 in
    omega arith

pub lists_put : (slots : List Slot) (by : By) (p : ℕ) (entries : List Entry) (e : Entry) → p < length slots → e.place ≡ p → key_at by (slot_at slots p) ≡ Some e.key → e.birth ≡ (slot_at slots p).birth →
    ListsBelow slots by p entries → ListsBelow slots by (p + 1) (entries ++ e ∷ [])
lists_put slots by p entries e lt at key birth l =
    let short : length entries ≤ p = l.short in
    let own : IsEntryOf slots by e = record { there = omega arith; key = ap (λ z. key_at by (slot_at slots z)) at ∙ key; birth = birth ∙ ap (λ z. (slot_at slots z).birth) (sym at) } in
    record {
      short = omega (arith, length-append entries (e ∷ []));
      only = λ i il. elim (Contains-push_cases entries e (entry_at (entries ++ e ∷ []) i) (Contains-get_or (entries ++ e ∷ []) i no_entry il)) [
        | inl c ↦ is_entry slots by entries (entry_at (entries ++ e ∷ []) i) l.only c
        | inr q ↦ (let P : Entry → Type 0 = λ z. IsEntryOf slots by z in subst P q own)
      ];
      each = λ k x kl q. elim (cases_eq k p) [
        | inl same ↦ (let P : ℕ → Type 0 = λ z. IsListed (entries ++ e ∷ []) z in subst P (at ∙ sym same) (listed_in (entries ++ e ∷ []) e (Contains-push entries e)))
        | inr ne ↦ still_listed entries (e ∷ []) k (l.each k x (omega arith) q)
      ];
      below = λ i il. elim (Contains-push_cases entries e (entry_at (entries ++ e ∷ []) i) (Contains-get_or (entries ++ e ∷ []) i no_entry il)) [
        | inl c ↦ (let b : (entry_at (entries ++ e ∷ []) i).place < p = place_below entries p (entry_at (entries ++ e ∷ []) i) l.below c in omega arith)
        | inr q ↦ (let b : (entry_at (entries ++ e ∷ []) i).place ≡ p = ap (λ (z : Entry). z.place) (sym q) ∙ at in omega arith)
      ];
      once = λ k.
          let sum : listings k (entries ++ e ∷ []) ≡ listings k entries + cond {A = ℕ} (eqb e.place k) 1 0 = listings_push k entries e in
          elim (cases_eq e.place k) [
            | inl same ↦
                let zeros : listings k entries ≡ 0 = listings_none k entries (λ i il. (let b : (entry_at entries i).place < p = l.below i il in λ q. omega arith)) in
                let one : cond {A = ℕ} (eqb e.place k) 1 0 ≡ 1 = ap (λ b. cond {A = ℕ} b 1 0) (eq-eqb e.place k same) in
                omega arith
            | inr ne ↦
                let none : cond {A = ℕ} (eqb e.place k) 1 0 ≡ 0 = ap (λ b. cond {A = ℕ} b 1 0) (ne_eqb e.place k ne) in
                let few : listings k entries ≤ 1 = l.once k in
                omega arith
          ];
    }

pub lists_skip : (slots : List Slot) (by : By) (p : ℕ) (entries : List Entry) → key_at by (slot_at slots p) ≡ None → ListsBelow slots by p entries → ListsBelow slots by (p + 1) entries
lists_skip slots by p entries none l =
    let short : length entries ≤ p = l.short in
    record {
      short = omega arith;
      only = l.only;
      each = λ k x kl q. elim (cases_eq k p) [
        | inl same ↦ (let bad : Some x ≡ None = sym q ∙ (ap (λ z. key_at by (slot_at slots z)) same ∙ none) in absurd cc)
        | inr ne ↦ l.each k x (omega arith) q
      ];
      below = λ i il. (let b : (entry_at entries i).place < p = l.below i il in omega arith);
      once = l.once;
    }

pub put_more : (slots : List Slot) (by : By) (p x b : ℕ) (t : Slot) (o : Option ℕ) (old new : List Entry) → p < length slots → t ≡ get_or slots p t → o ≡ Some x → o ≡ key_at by t → b ≡ t.birth → new ≡ old ++ record { key = x; birth = b; place = p } ∷ [] →
    ListsBelow slots by p old → ListsBelow slots by (p + 1) new
put_more slots by p x b t o old new lt et os ok eb en l =
    let P : List Entry → Type 0 = λ z. ListsBelow slots by (p + 1) z in
    let r = read_at slots p t lt et in
    subst P (sym en) (lists_put slots by p old (record { key = x; birth = b; place = p }) lt refl (ap (key_at by) r ∙ (sym ok ∙ os)) (eb ∙ ap (λ (z : Slot). z.birth) (sym r)) l)

pub skip_more : (slots : List Slot) (by : By) (p : ℕ) (t : Slot) (o : Option ℕ) (old new : List Entry) → p < length slots → t ≡ get_or slots p t → o ≡ None → o ≡ key_at by t → new ≡ old → ListsBelow slots by p old → ListsBelow slots by (p + 1) new
skip_more slots by p t o old new lt et on ok en l =
    let P : List Entry → Type 0 = λ z. ListsBelow slots by (p + 1) z in
    subst P (sym en) (lists_skip slots by p old (ap (key_at by) (read_at slots p t lt et) ∙ (sym ok ∙ on)) l)

pub index_sorted : (slots : List Slot) (by : By) (n : ℕ) (entries new : List Entry) → length slots ≤ n → ListsBelow slots by n entries → IsPermutation entries new → AreRising new → IsIndexOf slots by new
index_sorted slots by n entries new le l p r =
    record {
      only = λ i il. is_entry slots by entries (entry_at new i) l.only (Contains-permutation new entries (entry_at new i) (IsPermutation-sym entries new p) (Contains-get_or new i no_entry il));
      each = λ k x kl q.
          let o = l.each k x (omega arith) q in
          let P : ℕ → Type 0 = λ z. IsListed new z in
          subst P o.2 (listed_in new (entry_at entries o.0) (Contains-permutation entries new (entry_at entries o.0) p (Contains-get_or entries o.0 no_entry o.1)));
      once = λ k. (let same : listings k new ≡ listings k entries = sum_by-IsPermutation (λ (e : Entry). cond {A = ℕ} (eqb e.place k) 1 0) entries new p in let few : listings k entries ≤ 1 = l.once k in omega arith);
      rising = r;
    }

-- ---- searches

-- an entry with the key stands where the search ends, or none does
before_key : (key : ℕ) (e : Entry) → is_before key 0 e ≡ true → e.key < key
before_key key e t =
    elim (or_cases (ltb e.key key) _ t) [
      | inl l ↦ ltb-true e.key key l
      | inr r ↦ (let p = and_parts (eqb e.key key) (ltb e.birth 0) r in let b : e.birth < 0 = ltb-true e.birth 0 p.1 in absurd (omega arith))
    ]

not_before_key : (key : ℕ) (e : Entry) → is_before key 0 e ≡ false → key ≤ e.key
not_before_key key e f =
    elim (cases_lt e.key key) [ inr ge ↦ ge | inl lt ↦ absurd (both_ways _ f (or_left (ltb e.key key) _ (lt-ltb e.key key lt))) ]

pub found_none : (entries : List Entry) (key from : ℕ) → AreRising entries → IsFirstFrom entries key 0 from → (from < length entries → (entry_at entries from).key ≢ key) → (i : ℕ) → i < length entries → (entry_at entries i).key ≢ key
found_none entries key from r f ne i lt e =
    elim (cases_lt i from) [
      | inl before ↦ (let b : (entry_at entries i).key < key = before_key key (entry_at entries i) (f.before i before) in omega arith)
      | inr after ↦
          let fl : from < length entries = omega arith in
          let low : key ≤ (entry_at entries from).key = not_before_key key (entry_at entries from) (f.rest from (omega arith) fl) in
          let differ : (entry_at entries from).key ≢ key = ne fl in
          elim (r from i after lt) [ inl less ↦ omega arith | inr same ↦ (let q : (entry_at entries from).key ≡ (entry_at entries i).key = same.0 in omega arith) ]
    ]

-- ---- the places that are found

some_same : (a b : ℕ) → Some a ≡ Some b → a ≡ b
some_same a b e = cc

no_key : (slots : List Slot) (by : By) (entries : List Entry) (x k : ℕ) → IsIndexOf slots by entries → ((i : ℕ) → i < length entries → (entry_at entries i).key ≢ x) → k < length slots → key_at by (slot_at slots k) ≡ Some x → ⊥
no_key slots by entries x k idx f kl e =
    let l = idx.each k x kl e in
    let o = idx.only l.0 l.1 in
    f l.0 l.1 (some_same _ _ (sym o.key ∙ (ap (λ z. key_at by (slot_at slots z)) l.2 ∙ e)))

pub record KeyAt (slots : List Slot) (by : By) (x k : ℕ) : Type 0 where
  pub there : k < length slots
  pub key : key_at by (slot_at slots k) ≡ Some x

found_key : (slots : List Slot) (by : By) (entries : List Entry) (x k : ℕ) → IsIndexOf slots by entries → FoundKey entries x (Some k) → KeyAt slots by x k
found_key slots by entries x k idx f =
    let o = idx.only f.0 f.1 in
    record {
      there = (let a : (entry_at entries f.0).place < length slots = o.there in let b : (entry_at entries f.0).place ≡ k = f.3 in omega arith);
      key = ap (λ z. key_at by (slot_at slots z)) (sym f.3) ∙ (o.key ∙ ap Some f.2);
    }

birth_is : (slots : List Slot) (b k : ℕ) → HasApartBirths slots → k < length slots → (slot_at slots k).birth ≡ b → birth_place slots b ≡ Some k
unfolding birth_place
birth_is slots b k apart kl e =
    first_is _ (length slots) k (record {
      below = kl;
      passes = eq-eqb _ _ e;
      first = λ j jk. false_from_ne_true _ (λ t. let same : j ≡ k = apart j k (omega arith) kl (eqb-true _ _ t ∙ sym e) in omega arith);
    })

no_birth : (slots : List Slot) (b : ℕ) → ((k : ℕ) → k < length slots → (slot_at slots k).birth ≢ b) → birth_place slots b ≡ None
unfolding birth_place
no_birth slots b f = first_is_none _ (length slots) (λ k kl. ne_eqb _ _ (f k kl))

no_live : (slots : List Slot) (v : ℕ) → ((k : ℕ) → k < length slots → (slot_at slots k).is_live ≡ true → (slot_at slots k).volume ≢ v) → live_place slots v ≡ None
unfolding live_place
no_live slots v f = first_is_none _ (length slots) (λ k kl. false_from_ne_true _ (λ t. let p = and_parts (slot_at slots k).is_live _ t in f k kl p.0 (eqb-true _ _ p.1)))

pub born_at : (slots : List Slot) (entries now : List Entry) (b : ℕ) (o : Option ℕ) → now ≡ entries → IsIndexOf slots Birth entries → HasApartBirths slots → FoundKey now b o → o ≡ birth_place slots b
born_at slots entries now b None e idx apart f =
    let g : FoundKey entries b None = subst (λ (z : List Entry). FoundKey z b None) e f in
    sym (no_birth slots b (λ k kl q. no_key slots Birth entries b k idx g kl (ap Some q)))
born_at slots entries now b (Some k) e idx apart f =
    let g : FoundKey entries b (Some k) = subst (λ (z : List Entry). FoundKey z b (Some k)) e f in
    let h = found_key slots Birth entries b k idx g in
    sym (birth_is slots b k apart h.there (some_same _ _ h.key))

pub slot_found : (slots : List Slot) (entries now : List Entry) (m : ℕ) (o : Option ℕ) → now ≡ entries → IsIndexOf slots Mapping entries → HasMappings slots → FoundKey now m o → o ≡ mapping_place slots m
slot_found slots entries now m None e idx one f =
    let g : FoundKey entries m None = subst (λ (z : List Entry). FoundKey z m None) e f in
    sym (no_mapping_place slots m (λ k kl q. no_key slots Mapping entries m k idx g kl q))
slot_found slots entries now m (Some k) e idx one f =
    let g : FoundKey entries m (Some k) = subst (λ (z : List Entry). FoundKey z m (Some k)) e f in
    let h = found_key slots Mapping entries m k idx g in
    sym (mapping_place_is slots m k one h.there h.key)

pub found_bound : (slots : List Slot) (by : By) (entries now : List Entry) (x : ℕ) (o : Option ℕ) → now ≡ entries → IsIndexOf slots by entries → FoundKey now x o → IfSome o (λ k. k < length slots)
found_bound slots by entries now x None e idx f = tt
found_bound slots by entries now x (Some k) e idx f = (found_key slots by entries x k idx (subst (λ (z : List Entry). FoundKey z x (Some k)) e f)).there

-- ---- the live slot of a volume

pub live_at : (slots : List Slot) (entries : List Entry) (v i k : ℕ) (t : Slot) → HasOneLive (shape_of slots) → IsIndexOf slots Volume entries → i < length entries → (entry_at entries i).key ≡ v → k ≡ (entry_at entries i).place →
    t ≡ get_or slots k t → t.is_live ≡ true → Some k ≡ live_place slots v
live_at slots entries v i k t one idx lt e p et live =
    let o = idx.only i lt in
    let there : k < length slots = (let a : (entry_at entries i).place < length slots = o.there in omega arith) in
    let volume : (slot_at slots k).volume ≡ v = ap (λ z. (slot_at slots z).volume) p ∙ (some_same _ _ o.key ∙ e) in
    sym (live_place_is slots v k one (record { there = there; is_live = ap (λ (x : Slot). x.is_live) (read_at slots k t there et) ∙ live; of_volume = volume }))

pub live_none : (slots : List Slot) (entries : List Entry) (v first at : ℕ) → IsIndexOf slots Volume entries → IsFirstFrom entries v 0 first → first ≤ at →
    ((i : ℕ) → i < at → i < length entries → (entry_at entries i).key ≡ v → (slot_at slots (entry_at entries i).place).is_live ≡ false) → (at < length entries → (entry_at entries at).key ≢ v) → None ≡ live_place slots v
live_none slots entries v first at idx f le none ends =
    sym (no_live slots v (λ k kl live same.
    let l = idx.each k v kl (ap Some same) in
    let o = idx.only l.0 l.1 in
    let key : (entry_at entries l.0).key ≡ v = some_same _ _ (sym o.key ∙ (ap (λ z. key_at Volume (slot_at slots z)) l.2 ∙ ap Some same)) in
    elim (cases_lt l.0 at) [
      | inl before ↦ both_ways _ (none l.0 before l.1 key) (ap (λ z. (slot_at slots z).is_live) l.2 ∙ live)
      | inr after ↦
          let il : l.0 < length entries = l.1 in
          let al : at < length entries = omega arith in
          let low : v ≤ (entry_at entries at).key = not_before_key v (entry_at entries at) (f.rest at le al) in
          let differ : (entry_at entries at).key ≢ v = ends al in
          elim (idx.rising at l.0 after il) [ inl less ↦ omega arith | inr q ↦ (let e : (entry_at entries at).key ≡ (entry_at entries l.0).key = q.0 in omega arith) ]
    ]))

-- ---- a list written back after it was put in order

pub rebuilt : (slots : List Slot) (by v : By) (list now new : List Entry) (n : ℕ) → by ≡ v → ListsBelow slots by (length slots) list → now ≡ list → length now ≡ n → IsPermutation now new → AreRising new →
    IsIndexOf slots v (take n (new ++ drop (length new) list))
rebuilt slots by v list now new n q l e size p r =
    let long : length new ≡ length now = length_permutation now new p in
    let whole : take n (new ++ drop (length new) list) ≡ new =
    ap (λ z. take z (new ++ drop (length new) list)) (omega arith) ∙ (take-append-le (length new) new (drop (length new) list) (omega arith) ∙ take_all (length new) new (omega arith)) in
    let P : List Entry → Type 0 = λ z. IsIndexOf slots v z in
    let Q : By → Type 0 = λ z. IsIndexOf slots z new in
    let R : List Entry → Type 0 = λ z. IsPermutation z new in
    subst P (sym whole) (subst Q q (index_sorted slots by (length slots) list new (omega arith) l (subst R e p) r))

-- ---- what the search for a live slot reads

entry_read : (items entries : List Entry) (i n : ℕ) (x : Entry) → items ≡ entries → n ≡ length items → i < n → x ≡ get_or items i x → entry_at entries i ≡ x
entry_read items entries i n x e en lt r =
    let P : List Entry → Type 0 = λ z. entry_at z i ≡ x in
    subst P e (at_default items i no_entry x (omega arith) ∙ sym r)
  where
    at_default : (xs : List Entry) (i : ℕ) (d e : Entry) → i < length xs → get_or xs i d ≡ get_or xs i e
    at_default [] i d e lt = absurd (omega arith)
    at_default (x ∷ xs) zero d e lt = refl
    at_default (x ∷ xs) (suc i) d e lt = at_default xs i d e (omega arith)

pub live_here : (slots : List Slot) (items entries : List Entry) (v key i n : ℕ) (x y : Entry) (t : Slot) → HasOneLive (shape_of slots) → IsIndexOf slots Volume entries → items ≡ entries → n ≡ length items → i < n → key ≡ v →
    x ≡ get_or items i x → x.key ≡ key → y ≡ get_or items i y → t ≡ get_or slots y.place t → t.is_live ≡ true → Some y.place ≡ live_place slots v
live_here slots items entries v key i n x y t one idx e en lt ek rx kx ry rt live =
    let a = entry_read items entries i n x e en lt rx in
    let b = entry_read items entries i n y e en lt ry in
    let size : length items ≡ length entries = ap length e in
    live_at slots entries v i y.place t one idx (omega arith) (ap (λ (z : Entry). z.key) a ∙ (kx ∙ ek)) (sym (ap (λ (z : Entry). z.place) b)) rt live

pub live_gone : (slots : List Slot) (items entries now : List Entry) (v key first at n : ℕ) → IsIndexOf slots Volume entries → items ≡ entries → now ≡ items → n ≡ length items → key ≡ v → IsFirstFrom now key 0 first → first ≤ at →
    ((i : ℕ) → i < at → i < length entries → (entry_at entries i).key ≡ key → (slot_at slots (entry_at entries i).place).is_live ≡ false) → (at < n → (entry_at entries at).key ≢ key) → None ≡ live_place slots v
live_gone slots items entries now v key first at n idx e en size ek f le none ends =
    let g : IsFirstFrom entries key 0 first = subst (λ (z : List Entry). IsFirstFrom z key 0 first) (en ∙ e) f in
    let h : IsFirstFrom entries v 0 first = subst (λ (z : ℕ). IsFirstFrom entries z 0 first) ek g in
    let long : length items ≡ length entries = ap length e in
    live_none slots entries v first at idx h le (λ i lt il q. none i lt il (q ∙ sym ek)) (λ lt q. ends (omega arith) (q ∙ sym ek))

pub other_key : (items entries : List Entry) (i n key : ℕ) (x : Entry) → items ≡ entries → n ≡ length items → i < n → x ≡ get_or items i x → (x.key ≡ key → ⊥) → (entry_at entries i).key ≢ key
other_key items entries i n key x e en lt r ne q = ne (ap (λ (z : Entry). z.key) (sym (entry_read items entries i n x e en lt r)) ∙ q)

-- ---- all slots of a volume, through a walk over its entries

not_before_from : (key birth : ℕ) (e : Entry) → is_before key birth e ≡ false → key ≤ e.key
not_before_from key birth e f =
    elim (cases_lt e.key key) [ inr ge ↦ ge | inl lt ↦ absurd (both_ways _ f (or_left (ltb e.key key) _ (lt-ltb e.key key lt))) ]

volume_entry : (slots : List Slot) (entries : List Entry) (v k : ℕ) → IsIndexOf slots Volume entries → k < length slots → (slot_at slots k).volume ≡ v → (i : ℕ) × (i < length entries) × ((entry_at entries i).place ≡ k) × ((entry_at entries i).key ≡ v)
volume_entry slots entries v k idx kl same =
    let l = idx.each k v kl (ap Some same) in
    let o = idx.only l.0 l.1 in
    (l.0, l.1, l.2, some_same _ _ (sym o.key ∙ (ap (λ z. key_at Volume (slot_at slots z)) l.2 ∙ ap Some same)))

pub range_all : (slots : List Slot) (entries : List Entry) (v b first at : ℕ) (P : ℕ → Type 0) → IsIndexOf slots Volume entries → IsFirstFrom entries v b first → first ≤ at →
    ((i : ℕ) → i < at → i < length entries → (entry_at entries i).key ≡ v → P (entry_at entries i).place) → (at < length entries → (entry_at entries at).key ≢ v) → (k : ℕ) → k < length slots → (slot_at slots k).volume ≡ v → P k
range_all slots entries v b first at P idx f le none ends k kl same =
    let l = volume_entry slots entries v k idx kl same in
    elim (cases_lt l.0 at) [
      | inl before ↦ subst P l.2 (none l.0 before l.1 l.3)
      | inr after ↦
          let il : l.0 < length entries = l.1 in
          let al : at < length entries = omega arith in
          let low : v ≤ (entry_at entries at).key = not_before_from v b (entry_at entries at) (f.rest at le al) in
          let differ : (entry_at entries at).key ≢ v = ends al in
          let key : (entry_at entries l.0).key ≡ v = l.3 in
          elim (idx.rising at l.0 after il) [ inl less ↦ absurd (omega arith) | inr q ↦ (let e : (entry_at entries at).key ≡ (entry_at entries l.0).key = q.0 in absurd (omega arith)) ]
    ]

pub range_end : (slots : List Slot) (items entries now : List Entry) (v key b first at n : ℕ) (P : ℕ → Type 0) → IsIndexOf slots Volume entries → items ≡ entries → now ≡ items → n ≡ length items → key ≡ v → IsFirstFrom now key b first → first ≤ at →
    ((i : ℕ) → i < at → i < length entries → (entry_at entries i).key ≡ key → P (entry_at entries i).place) → (at < n → (entry_at entries at).key ≢ key) → (k : ℕ) → k < length slots → (slot_at slots k).volume ≡ v → P k
range_end slots items entries now v key b first at n P idx e en size ek f le none ends =
    let g : IsFirstFrom entries key b first = subst (λ (z : List Entry). IsFirstFrom z key b first) (en ∙ e) f in
    let h : IsFirstFrom entries v b first = subst (λ (z : ℕ). IsFirstFrom entries z b first) ek g in
    let long : length items ≡ length entries = ap length e in
    range_all slots entries v b first at P idx h le (λ i lt il q. none i lt il (q ∙ sym ek)) (λ lt q. ends (omega arith) (q ∙ sym ek))

-- the part of the list between two searches
pub range_ordered : (entries : List Entry) (key from to : ℕ) → IsFirstFrom entries key 0 from → IsFirstFrom entries (key + 1) 0 to → from ≤ to
range_ordered entries key from to f g =
    elim (cases_lt to from) [
      | inr ge ↦ ge
      | inl lt ↦
          let within : from ≤ length entries = f.within in
          let a : (entry_at entries to).key < key = before_key key (entry_at entries to) (f.before to lt) in
          let b : key + 1 ≤ (entry_at entries to).key = not_before_key (key + 1) (entry_at entries to) (g.rest to (omega arith) (omega arith)) in
          absurd (omega arith)
    ]

pub volume_range : (slots : List Slot) (entries part : List Entry) (v from to : ℕ) → IsIndexOf slots Volume entries → IsFirstFrom entries v 0 from → IsFirstFrom entries (v + 1) 0 to → part ≡ take (to - from) (drop from entries) → ListsVolume slots v part
volume_range slots entries part v from to idx f g e =
    let le : from ≤ to = range_ordered entries v from to f g in
    let within : to ≤ length entries = g.within in
    let rest : length (drop from entries) ≡ length entries - from = length-drop from entries in
    let size : length (take (to - from) (drop from entries)) ≡ to - from = length-take-le (to - from) (drop from entries) (omega arith) in
    let at : (i : ℕ) → i < to - from → entry_at (take (to - from) (drop from entries)) i ≡ entry_at entries (from + i) =
    λ i lt. get_or-take (to - from) (drop from entries) i no_entry lt ∙ get_or-drop from entries i no_entry in
    let P : List Entry → Type 0 = λ z. ListsVolume slots v z in
    subst P (sym e) (record {
      there = λ i lt. (let o = idx.only (from + i) (omega arith) in let a : (entry_at entries (from + i)).place < length slots = o.there in let b : (entry_at (take (to - from) (drop from entries)) i).place ≡ (entry_at entries (from + i)).place = ap (λ (z : Entry). z.place) (at i (omega arith)) in omega arith);
      only = λ i lt.
          let o = idx.only (from + i) (omega arith) in
          let low : v ≤ (entry_at entries (from + i)).key = not_before_key v (entry_at entries (from + i)) (f.rest (from + i) (omega arith) (omega arith)) in
          let high : (entry_at entries (from + i)).key < v + 1 = before_key (v + 1) (entry_at entries (from + i)) (g.before (from + i) (omega arith)) in
          ap (λ (z : Entry). (slot_at slots z.place).volume) (at i (omega arith)) ∙ (some_same _ _ o.key ∙ (omega arith));
      each = λ k kl same.
          let l = volume_entry slots entries v k idx kl same in
          let il : l.0 < length entries = l.1 in
          let key : (entry_at entries l.0).key ≡ v = l.3 in
          let above : from ≤ l.0 = elim (cases_lt l.0 from) [ inr ge ↦ ge | inl lt ↦ (let b : (entry_at entries l.0).key < v = before_key v (entry_at entries l.0) (f.before l.0 lt) in absurd (omega arith)) ] in
          let under : l.0 < to = elim (cases_lt l.0 to) [ inl lt ↦ lt | inr ge ↦ (let b : v + 1 ≤ (entry_at entries l.0).key = not_before_key (v + 1) (entry_at entries l.0) (g.rest l.0 ge il) in absurd (omega arith)) ] in
          let back : from + (l.0 - from) ≡ l.0 = omega arith in
          let place : (entry_at (take (to - from) (drop from entries)) (l.0 - from)).place ≡ k = ap (λ (z : Entry). z.place) (at (l.0 - from) (omega arith)) ∙ (ap (λ z. (entry_at entries z).place) back ∙ l.2) in
          let inside : l.0 - from < length (take (to - from) (drop from entries)) = omega arith in
          (l.0 - from, inside, place);
      once = λ i j ij jl q.
          let few : listings (entry_at entries (from + j)).place entries ≤ 1 = idx.once (entry_at entries (from + j)).place in
          let two : 2 ≤ listings (entry_at entries (from + j)).place entries =
          listings_two (entry_at entries (from + j)).place entries (from + i) (from + j) (omega arith) (omega arith) (ap (λ (z : Entry). z.place) (sym (at i (omega arith))) ∙ (q ∙ ap (λ (z : Entry). z.place) (at j (omega arith)))) refl in
          omega arith;
    })

pub volume_found : (items entries a b c : List Entry) (v key from to : ℕ) → items ≡ entries → a ≡ items → b ≡ items → c ≡ items → key ≡ v → IsFirstFrom a key 0 from → IsFirstFrom b (key + 1) 0 to →
    (slots : List Slot) → IsIndexOf slots Volume entries → ListsVolume slots v (take (to - from) (drop from c))
volume_found items entries a b c v key from to e ea eb ec ek f g slots idx =
    let f1 : IsFirstFrom entries key 0 from = subst (λ (z : List Entry). IsFirstFrom z key 0 from) (ea ∙ e) f in
    let g1 : IsFirstFrom entries (key + 1) 0 to = subst (λ (z : List Entry). IsFirstFrom z (key + 1) 0 to) (eb ∙ e) g in
    let f2 : IsFirstFrom entries v 0 from = subst (λ (z : ℕ). IsFirstFrom entries z 0 from) ek f1 in
    let g2 : IsFirstFrom entries (v + 1) 0 to = subst (λ (z : ℕ). IsFirstFrom entries (z + 1) 0 to) ek g1 in
    volume_range slots entries (take (to - from) (drop from c)) v from to idx f2 g2 (ap (λ z. take (to - from) (drop from z)) (ec ∙ e))

-- a volume that isn't used
pub not_used : (slots : List Slot) (v : ℕ) → ((k : ℕ) → k < length slots → (slot_at slots k).volume ≡ v → LiveBehind slots k → ⊥) → UsedAt slots v → ⊥
not_used slots v f u = f u.0 u.1 u.2 u.3

-- an old slot
pub old_none : (slots : List Slot) (v : ℕ) (after : Option ℕ) → HasApartBirths slots → ((k : ℕ) → k < length slots → (slot_at slots k).volume ≡ v → is_old_after slots v after k ≡ false) → NextOld slots v after None
old_none slots v after apart f =
    least_found slots v after (length slots) None apart (omega arith)
    (λ j jl. elim (cases_eq (slot_at slots j).volume v) [ inl same ↦ f j jl same | inr ne ↦ and_left _ _ (and_right (not (slot_at slots j).is_live) _ (ne_eqb _ _ ne)) ])

pub old_first : (slots : List Slot) (entries : List Entry) (v at k : ℕ) (after : Option ℕ) → HasApartBirths slots → IsIndexOf slots Volume entries → at < length entries → (entry_at entries at).key ≡ v → k ≡ (entry_at entries at).place → is_old_after slots v after k ≡ true →
    ((i : ℕ) → i < at → i < length entries → (entry_at entries i).key ≡ v → is_old_after slots v after (entry_at entries i).place ≡ false) → NextOld slots v after (Some k)
old_first slots entries v at k after apart idx al key e passes none =
    let o = idx.only at al in
    let there : k < length slots = (let a : (entry_at entries at).place < length slots = o.there in omega arith) in
    let own : (slot_at slots k).birth ≡ (entry_at entries at).birth = ap (λ z. (slot_at slots z).birth) e ∙ sym o.birth in
    least_found slots v after (length slots) (Some k) apart (omega arith) (record {
      below = there;
      there = there;
      passes = passes;
      least = λ j jl t.
          let p = and_parts (is_old_of (shape_of slots) v j) _ t in
          let q = and_parts (not (slot_at slots j).is_live) _ p.0 in
          let l = volume_entry slots entries v j idx jl (eqb-true _ _ q.1) in
          let i = idx.only l.0 l.1 in
          let birth : (entry_at entries l.0).birth ≡ (slot_at slots j).birth = i.birth ∙ ap (λ z. (slot_at slots z).birth) l.2 in
          elim (cases_lt l.0 at) [
            | inl before ↦ absurd (both_ways _ (none l.0 before l.1 l.3) (ap (is_old_after slots v after) l.2 ∙ t))
            | inr later ↦ elim (idx.rising at l.0 later l.1) [
              | inl less ↦ (let x : (entry_at entries l.0).key ≡ v = l.3 in absurd (omega arith))
              | inr y ↦ (let z : (entry_at entries at).birth ≤ (entry_at entries l.0).birth = y.1 in omega arith)
            ]
          ];
    })

pub old_here : (slots : List Slot) (items entries : List Entry) (v key i n : ℕ) (after : Option ℕ) (x y : Entry) (t : Slot) → HasApartBirths slots → IsIndexOf slots Volume entries → items ≡ entries → n ≡ length items → i < n → key ≡ v →
    x ≡ get_or items i x → x.key ≡ key → y ≡ get_or items i y → t ≡ get_or slots y.place t → ((not t.is_live && eqb t.volume v) && is_after after t.birth) ≡ true →
    ((j : ℕ) → j < i → j < length entries → (entry_at entries j).key ≡ key → is_old_after slots v after (entry_at entries j).place ≡ false) → NextOld slots v after (Some y.place)
old_here slots items entries v key i n after x y t apart idx e en lt ek rx kx ry rt passes none =
    let a = entry_read items entries i n x e en lt rx in
    let b = entry_read items entries i n y e en lt ry in
    let size : length items ≡ length entries = ap length e in
    let il : i < length entries = omega arith in
    let o = idx.only i il in
    let there : y.place < length slots = (let q : (entry_at entries i).place < length slots = o.there in let r : (entry_at entries i).place ≡ y.place = ap (λ (z : Entry). z.place) b in omega arith) in
    old_first slots entries v i y.place after apart idx il (ap (λ (z : Entry). z.key) a ∙ (kx ∙ ek)) (sym (ap (λ (z : Entry). z.place) b))
    (ap (λ (z : Slot). (not z.is_live && eqb z.volume v) && is_after after z.birth) (read_at slots y.place t there rt) ∙ passes) (λ j jl jn q. none j jl jn (q ∙ sym ek))
