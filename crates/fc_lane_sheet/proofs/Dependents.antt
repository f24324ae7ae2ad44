-- The mappings that depend on one, found by asking each found one in turn.
use Rattle.std.proofs.Common.{◌≡◌, ◌≢◌, ◌⊎◌, ℕ, zero, suc, ◌+◌, ◌<◌, ◌≤◌, Bool, true, false, cond, ◌||◌, ◌==◌, Some, List, [], ◌∷◌, ◌++◌, length, map, fold, get_or, refl, sym, ap, subst, ◌∙◌, arith, inl, inr, nat_eq}
use Rattle.std.specs.Prelude.{slice_index_or, filter, Contains, Result, Ok, Err, IfOk, OnOk}
use Rattle.std.specs.List.{list_any, IsDistinct}
use Rattle.std.specs.Cmp.{nat_eq_equiv}
use Rattle.std.proofs.lemmas.Bool.{cases_eq, or_cases, or_parts, or_left, or_right, eq-eqb, eqb-true, eqb-false}
use Rattle.std.proofs.lemmas.List.{get_or_default, get_or-map, length-map, map-append, get_or_append_left, length_push}
use Rattle.std.proofs.lemmas.List.Elements.{Contains-push_cases}
use Rattle.std.proofs.lemmas.List.Folds.{list_any-append, list_any_at}
use Rattle.std.proofs.lemmas.List.Kept.{AllPairs-filter}
use Rattle.std.proofs.lemmas.Map.Keys.{IsDistinct-push}
use Rattle.std.proofs.lemmas.Map.Made.{length-le_from_is_member}
use Rattle.fc_base.specs.Sheet.{Sheet, mapping_place}
use Rattle.fc_base.specs.SheetView.{AreMappings, ReadsMapping, DependsOn}
use Rattle.fc_base.specs.declared.ids.MapId.{MapId}
use Rattle.fc_base.specs.declared.outcome.NoMemory.{NoMemory}
use Rattle.fc_base.specs.declared.volume.Mapping.{Mapping}
use Rattle.fc_lane.specs.Lane.{LaneView}
use Rattle.fc_sheets.proofs.Finding.{mapping_place_at}
use Rattle.fc_sums.proofs.Depending.{depends_first, depends_onward, place_same}
use Rattle.fc_sums.proofs.Lawful.{sum_law_holds}
use Rattle.fc_lane_sheet.specs.LaneSheet.{sheet_of, HaveSheet, AreListed, has_map, with_map, ids_of, Reached, AddsReaders}
use Rattle.fc_lane_sheet.proofs.Readers.{chosen, rising_ids, is_chosen, chosen_only}

-- ---- being among mappings

abbrev named : ℕ → MapId
named n = record { 0 = n }

contains_has : (maps : List MapId) (m : MapId) → Contains maps m → has_map maps m ≡ true
contains_has maps m c = list_any_at (λ (x : MapId). m.0 == x.0) maps c.0 m c.1 (ap (λ (x : MapId). m.0 == x.0) c.2 ∙ eq-eqb m.0 m.0 refl)

has_first : (m x : MapId) (xs : List MapId) (b : Bool) → (m.0 == x.0) ≡ b → (has_map xs m ≡ true → Contains xs m) → (b || has_map xs m) ≡ true → Contains (x ∷ xs) m
has_first m x xs true is rest e = (0, omega arith, ap named (sym (eqb-true m.0 x.0 is)))
has_first m x xs false is rest e = let f = rest e in (suc f.0, (let lt = f.1 in omega arith), f.2)

pub has_contains : (maps : List MapId) (m : MapId) → has_map maps m ≡ true → Contains maps m
has_contains [] m e = absurd cc
has_contains (x ∷ xs) m e = has_first m x xs (m.0 == x.0) refl (has_contains xs m) e

has_ids : (maps : List MapId) (q : ℕ) → list_any (nat_eq q) (ids_of maps) ≡ has_map maps (named q)
has_ids [] q = refl
has_ids (x ∷ xs) q = ap (λ b. (q == x.0) || b) (has_ids xs q)

-- ---- one more

one_keeps : (b : Bool) (maps : List MapId) (x n : MapId) → has_map maps n ≡ true → has_map (cond b maps (maps ++ x ∷ [])) n ≡ true
one_keeps true maps x n e = e
one_keeps false maps x n e = list_any-append (λ (y : MapId). n.0 == y.0) maps (x ∷ []) ∙ or_left (has_map maps n) (has_map (x ∷ []) n) e

one_new : (but : MapId) (maps : List MapId) (x : MapId) (b : Bool) → (x.0 == but.0 || has_map maps x) ≡ b → x.0 ≢ but.0 → has_map (cond b maps (maps ++ x ∷ [])) x ≡ true
one_new but maps x true e other = elim (or_cases (x.0 == but.0) (has_map maps x) e) [ inl same ↦ absurd (other (eqb-true x.0 but.0 same)) | inr has ↦ has ]
one_new but maps x false e other =
    list_any-append (λ (y : MapId). x.0 == y.0) maps (x ∷ [])
    ∙ or_right (has_map maps x) (has_map (x ∷ []) x) (or_left (x.0 == x.0) false (eq-eqb x.0 x.0 refl))

one_only : (but : MapId) (maps : List MapId) (x : MapId) (P : MapId → Type 0) (b : Bool) → (x.0 == but.0 || has_map maps x) ≡ b → ((n : MapId) → Contains maps n → P n) → (x.0 ≢ but.0 → P x) →
    (n : MapId) → Contains (cond b maps (maps ++ x ∷ [])) n → P n
one_only but maps x P true e old new n has = old n has
one_only but maps x P false e old new n has =
    elim (Contains-push_cases maps x n has) [
      | inl before ↦ old n before
      | inr same ↦ subst P same (new (eqb-false x.0 but.0 (or_parts (x.0 == but.0) (has_map maps x) e).0))
    ]

one_distinct : (but : MapId) (maps : List MapId) (x : MapId) (b : Bool) → (x.0 == but.0 || has_map maps x) ≡ b → IsDistinct nat_eq (ids_of maps) → IsDistinct nat_eq (ids_of (cond b maps (maps ++ x ∷ [])))
one_distinct but maps x true e d = d
one_distinct but maps x false e d =
    let P : List ℕ → Type 0 = λ z. IsDistinct nat_eq z in
    subst P (sym (map-append (λ (y : MapId). y.0) maps (x ∷ [])))
    (IsDistinct-push nat_eq_equiv (ids_of maps) x.0 d (has_ids maps x.0 ∙ (or_parts (x.0 == but.0) (has_map maps x) e).1))

one_long : (b : Bool) (maps : List MapId) (x : MapId) → length maps ≤ length (cond b maps (maps ++ x ∷ []))
one_long true maps x = omega arith
one_long false maps x = omega (arith, length_push maps x)

one_same : (b : Bool) (maps : List MapId) (x d : MapId) (j : ℕ) → j < length maps → get_or (cond b maps (maps ++ x ∷ [])) j d ≡ get_or maps j d
one_same true maps x d j lt = refl
one_same false maps x d j lt = get_or_append_left maps (x ∷ []) d j lt

-- ---- several more

abbrev all_with : MapId → List MapId → List MapId → List MapId
all_with but maps xs = fold (with_map but) maps xs

all_keep : (but : MapId) (maps xs : List MapId) (n : MapId) → has_map maps n ≡ true → has_map (all_with but maps xs) n ≡ true
all_keep but maps [] n e = e
all_keep but maps (x ∷ xs) n e = all_keep but (with_map but maps x) xs n (one_keeps (x.0 == but.0 || has_map maps x) maps x n e)

all_new : (but : MapId) (maps xs : List MapId) (n : MapId) (k : ℕ) → k < length xs → slice_index_or xs k n ≡ n → n.0 ≢ but.0 → has_map (all_with but maps xs) n ≡ true
all_new but maps [] n k lt e other = absurd (omega arith)
all_new but maps (x ∷ xs) n zero lt e other =
    let P : MapId → Type 0 = λ z. z.0 ≢ but.0 → has_map (all_with but (with_map but maps x) xs) z ≡ true in
    subst P e (λ ne. all_keep but (with_map but maps x) xs x (one_new but maps x (x.0 == but.0 || has_map maps x) refl ne)) other
all_new but maps (x ∷ xs) n (suc k) lt e other = all_new but (with_map but maps x) xs n k (omega arith) e other

all_only : (but : MapId) (maps xs : List MapId) (P : MapId → Type 0) → ((n : MapId) → Contains maps n → P n) → ((n : MapId) → Contains xs n → n.0 ≢ but.0 → P n) →
    (n : MapId) → Contains (all_with but maps xs) n → P n
all_only but maps [] P old new n has = old n has
all_only but maps (x ∷ xs) P old new n has =
    all_only but (with_map but maps x) xs P
    (one_only but maps x P (x.0 == but.0 || has_map maps x) refl old (new x (0, omega arith, refl)))
    (λ y c. new y (suc c.0, (let lt = c.1 in omega arith), c.2)) n has

all_distinct : (but : MapId) (maps xs : List MapId) → IsDistinct nat_eq (ids_of maps) → IsDistinct nat_eq (ids_of (all_with but maps xs))
all_distinct but maps [] d = d
all_distinct but maps (x ∷ xs) d = all_distinct but (with_map but maps x) xs (one_distinct but maps x (x.0 == but.0 || has_map maps x) refl d)

all_same : (but : MapId) (maps xs : List MapId) (d : MapId) (j : ℕ) → j < length maps → get_or (all_with but maps xs) j d ≡ get_or maps j d
all_same but maps [] d j lt = refl
all_same but maps (x ∷ xs) d j lt =
    let b : Bool = x.0 == but.0 || has_map maps x in
    let long : length maps ≤ length (with_map but maps x) = one_long b maps x in
    all_same but (with_map but maps x) xs d j (omega arith) ∙ one_same b maps x d j lt

-- ---- those reached

-- no slot reads from itself
reads_other : (s : Sheet) (m n : ℕ) → ReadsMapping s.slots m n → n ≢ m
reads_other s m n r e =
    r.reads.other (place_same s.slots m r.reader r.from (ap (mapping_place s.slots) (sym e) ∙ r.reader_there) r.from_there)

distinct_none : IsDistinct nat_eq []
unfolding IsDistinct
distinct_none = tt

pub reached_first : (s : Sheet) (m : MapId) (reached : List MapId) → AddsReaders s m m.0 [] reached → Reached s m 0 reached
reached_first s m reached a =
    let P : List MapId → Type 0 = λ z. Reached s m 0 z in
    subst P (sym a.added) (record {
      distinct = all_distinct m [] a.more distinct_none;
      only = all_only m [] a.more (λ n. DependsOn s.slots m.0 n.0) (λ n has. absurd (let lt = has.1 in omega arith)) (λ n has other. depends_first s.slots m.0 n.0 (a.readers.only n has));
      first = λ n r. (let c = a.readers.all n r in has_contains (all_with m [] a.more) n (all_new m [] a.more n c.0 c.1 c.2 (reads_other s m.0 n.0 r)));
      onward = λ j d n lt. absurd (omega arith);
    })

pub reached_next : (s : Sheet) (m e : MapId) (asked : ℕ) (old new : List MapId) → Reached s m asked old → asked < length old → slice_index_or old asked e ≡ e → AddsReaders s m e.0 old new → Reached s m (asked + 1) new
reached_next s m e asked old new r lt at a =
    let P : List MapId → Type 0 = λ z. Reached s m (asked + 1) z in
    let keeps = λ (n : MapId) (c : Contains old n). has_contains (all_with m old a.more) n (all_keep m old a.more n (contains_has old n c)) in
    subst P (sym a.added) (record {
      distinct = all_distinct m old a.more r.distinct;
      only = all_only m old a.more (λ n. DependsOn s.slots m.0 n.0) r.only (λ n has other. depends_onward s.slots m.0 e.0 n.0 (r.only e (asked, lt, at)) (a.readers.only n has) other);
      first = λ n reads. keeps n (r.first n reads);
      onward = λ j d n below within reads other. next keeps j d n below reads other (cases_eq j asked);
    })
  where
    next : ((n : MapId) → Contains old n → Contains (all_with m old a.more) n) → (j : ℕ) (d n : MapId) → j < asked + 1 → ReadsMapping s.slots (slice_index_or (all_with m old a.more) j d).0 n.0 → n.0 ≢ m.0 →
        (j ≡ asked) ⊎ (j ≡ asked → ⊥) → Contains (all_with m old a.more) n
    next keeps j d n below reads other (inl same) =
        let lt' : j < length old = omega arith in
        let Q : MapId → Type 0 = λ z. ReadsMapping s.slots z.0 n.0 in
        let there : slice_index_or (all_with m old a.more) j d ≡ e =
        all_same m old a.more d j lt' ∙ (ap (λ z. slice_index_or old z d) same ∙ (get_or_default old asked d e lt ∙ at)) in
        let c = a.readers.all n (subst Q there reads) in
        has_contains (all_with m old a.more) n (all_new m old a.more n c.0 c.1 c.2 other)
    next keeps j d n below reads other (inr apart) =
        let lt' : j < length old = omega arith in
        let Q : MapId → Type 0 = λ z. ReadsMapping s.slots z.0 n.0 in
        keeps n (r.onward j d n (omega arith) lt' (subst Q (all_same m old a.more d j lt') reads) other)

pub reached_skip : (s : Sheet) (m : MapId) (asked : ℕ) (maps : List MapId) → Reached s m asked maps → length maps ≤ asked → Reached s m (asked + 1) maps
reached_skip s m asked maps r past = record {
  distinct = r.distinct;
  only = r.only;
  first = r.first;
  onward = λ j d n lt within. r.onward j d n (omega arith) within;
}

-- ---- all of them

-- a mapping with a slot is listed
listed_there : (s : Sheet) (mappings : List Mapping) → AreListed s mappings → (n k : ℕ) → mapping_place s.slots n ≡ Some k → (m : Mapping) × Contains mappings m × (m.id.0 ≡ n)
listed_there s mappings listed n k e = let there = mapping_place_at s.slots n k e in listed.owned k n there.0 there.1

few_reached : (s : Sheet) (mappings : List Mapping) → AreListed s mappings → (m : MapId) (asked : ℕ) (maps : List MapId) → Reached s m asked maps → length maps ≤ length mappings
few_reached s mappings listed m asked maps r =
    let all_ids : List ℕ = map (λ (x : Mapping). x.id.0) mappings in
    let a : length (ids_of maps) ≡ length maps = length-map maps (λ (x : MapId). x.0) in
    let b : length all_ids ≡ length mappings = length-map mappings (λ (x : Mapping). x.id.0) in
    let le : length (ids_of maps) ≤ length all_ids = length-le_from_is_member nat_eq_equiv (ids_of maps) all_ids r.distinct
    (λ q e. let dep = r.only (named q) (has_contains maps (named q) (sym (has_ids maps q) ∙ e)) in
    let f = listed_there s mappings listed q dep.dependent dep.dependent_there in
    list_any_at (nat_eq q) all_ids f.1.0 q (let lt = f.1.1 in omega arith)
    (ap (nat_eq q) (get_or-map (λ (x : Mapping). x.id.0) mappings f.1.0 f.0 q f.1.1 ∙ (ap (λ (x : Mapping). x.id.0) f.1.2 ∙ f.2)) ∙ eq-eqb q q refl)) in
    omega arith

pub all_reached : (lanes : List LaneView) → (h : HaveSheet lanes) → (mappings : List Mapping) → AreListed (sheet_of lanes) mappings → (m : MapId) (maps : List MapId) → Reached (sheet_of lanes) m (length mappings) maps →
    AreMappings (DependsOn (sheet_of lanes).slots m.0) (chosen (λ n. has_map maps (named n)) mappings)
all_reached lanes h mappings listed m maps r =
    let s : Sheet = sheet_of lanes in
    let test : ℕ → Bool = λ n. has_map maps (named n) in
    let law = sum_law_holds.reads h.grain (length lanes) s h.some in
    let few : length maps ≤ length mappings = few_reached s mappings listed m (length mappings) maps r in
    let pick = λ (n : MapId) (k : ℕ) (there : mapping_place s.slots n.0 ≡ Some k) (has : Contains maps n). chosen_at s mappings listed maps n k there has in
    (sum_law_holds.depends h.grain (length lanes) s h.some h.sound.sizes h.sound.mappings).all_dependents m.0 (chosen test mappings)
    (record {
      rising = rising_ids (filter (λ (x : Mapping). test x.id.0) mappings) (AllPairs-filter (λ (a b : Mapping). a.id.0 < b.id.0) (λ (x : Mapping). test x.id.0) mappings listed.rising);
      reached = λ n has. r.only n (has_contains maps n (chosen_only test mappings n has));
      first = λ i n lt reads. (let whole = law.mapping_from_lane i m.0 n.0 lt reads in pick n whole.reader whole.reader_there (r.first n whole));
      onward = λ i e n lt has reads other. (
          let whole = law.mapping_from_lane i e.0 n.0 lt reads in
          let c = has_contains maps e (chosen_only test mappings e has) in
          let Q : MapId → Type 0 = λ z. ReadsMapping s.slots z.0 n.0 in
          pick n whole.reader whole.reader_there (r.onward c.0 e n (let below = c.1 in omega arith) c.1 (subst Q (sym c.2) whole) other));
    })
  where
    chosen_at : (s : Sheet) (mappings : List Mapping) → AreListed s mappings → (maps : List MapId) (n : MapId) (k : ℕ) → mapping_place s.slots n.0 ≡ Some k → Contains maps n → Contains (chosen (λ x. has_map maps (named x)) mappings) n
    chosen_at s mappings listed maps n k there has =
        let f = listed_there s mappings listed n.0 k there in
        let e : f.0.id ≡ n = ap named f.2 in
        let P : MapId → Type 0 = λ z. Contains (chosen (λ x. has_map maps (named x)) mappings) z in
        subst P e (is_chosen (λ x. has_map maps (named x)) mappings f.1.0 f.0 f.1.1 f.1.2 (ap (has_map maps) e ∙ contains_has maps n has))

-- ---- as they are reached

pub asked_one : (s : Sheet) (m e : MapId) (asked : ℕ) (old new : List MapId) (r : Result (Unit {0}) NoMemory) → Reached s m asked old → asked < length old → slice_index_or old asked e ≡ e →
    OnOk r (AddsReaders s m e.0 old new) → OnOk r (Reached s m (asked + 1) new)
asked_one s m e asked old new (Ok done) reached lt at a = reached_next s m e asked old new reached lt at a
asked_one s m e asked old new (Err error) reached lt at a = a

pub reached_at : (s : Sheet) (m : MapId) (asked count : ℕ) (maps : List MapId) → asked ≡ count → Reached s m asked maps → Reached s m count maps
reached_at s m asked count maps e r = let P : ℕ → Type 0 = λ z. Reached s m z maps in subst P e r

pub dependents_answer : (lanes : List LaneView) → (h : HaveSheet lanes) → (mappings : List Mapping) → AreListed (sheet_of lanes) mappings → (m : MapId) (maps among : List MapId) → among ≡ maps → Reached (sheet_of lanes) m (length mappings) maps →
    (r : Result (List MapId) NoMemory) → IfOk r (λ all. all ≡ map (λ (x : Mapping). x.id) (filter (λ (x : Mapping). has_map among x.id) mappings)) → IfOk r (λ all. AreMappings (DependsOn (sheet_of lanes).slots m.0) all)
dependents_answer lanes h mappings listed m maps among same reached (Ok all) q =
    let P : List MapId → Type 0 = λ z. AreMappings (DependsOn (sheet_of lanes).slots m.0) z in
    subst P (sym (q ∙ ap (λ z. map (λ (x : Mapping). x.id) (filter (λ (x : Mapping). has_map z x.id) mappings)) same)) (all_reached lanes h mappings listed m maps reached)
dependents_answer lanes h mappings listed m maps among same reached (Err error) q = q

pub begun : (s : Sheet) (m : MapId) (old new : List MapId) → old ≡ [] → AddsReaders s m m.0 old new → Reached s m 0 new
begun s m old new e a =
    let P : List MapId → Type 0 = λ z. AddsReaders s m m.0 z new in
    reached_first s m new (subst P e a)
