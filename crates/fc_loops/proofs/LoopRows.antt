-- Rows: the loops over them, and that they follow the slots through a trigger.
use Rattle.std.proofs.Common.{◌≡◌, ◌≢◌, ℕ, suc, ◌+◌, ◌<◌, ◌≤◌, Bool, true, false, ◌&&◌, eqb, ltb, Option, Some, None, is_some, List, [], ◌∷◌, ◌++◌, length, set, map, take, drop, remove, insert, refl, sym, ap, ◌∙◌, arith, inl, inr}
use Rattle.std.proofs.lemmas.Bool.{cases_Bool, both_ways, and_parts, and_from, eqb-true, eq-eqb, ltb-true, lt-ltb, false_from_ne_true}
use Rattle.std.proofs.Math.ListN.{get_or-map}
use Rattle.std.proofs.lemmas.List.{map-set, map-append, take-map, drop-map, length-map}
use Rattle.fc_base.specs.declared.request.Pair.{Pair}
use Rattle.fc_base.specs.Column.{first_below, last_below}
use Rattle.fc_base.specs.RestoreGraph.{Edge}
use Rattle.fc_base.specs.Sheet.{Slot, Sheet, slot_at, no_slot, shape_of, live_place}
use Rattle.fc_base.specs.SheetStep.{has_after, at_place, left_place, placed, started_empty, triggered}
use Rattle.fc_moves.proofs.Search.{first_is, first_is_none, last_none, last_is_none}
use Rattle.fc_loops.specs.declared.rows.Row.{Row}
use Rattle.fc_slots.specs.Contiguous.{IsContiguous}
use Rattle.fc_loops.specs.Joins.{AreTogether}
use Rattle.fc_loops.specs.Rows.{row_of, rows_of, row_at, is_live_row, live_row, is_row_behind, has_row_behind, row_left, row_placed, at_row, rows_started, rows_triggered, row_shape}

-- ---- loops over rows

pub live_row_found : (rows : List Row) (v k : ℕ) → k < length rows → (row_at rows k).is_live ≡ true → (row_at rows k).volume ≡ v → ((j : ℕ) → j < k → is_live_row rows v j ≡ false) → Some k ≡ live_row rows v
unfolding live_row
live_row_found rows v k lt l q before = sym (first_is (is_live_row rows v) (length rows) k (record { below = lt; first = before; passes = and_from _ _ l (eq-eqb _ _ q) }))

pub live_row_none : (rows : List Row) (v k : ℕ) → length rows ≤ k → ((j : ℕ) → j < k → is_live_row rows v j ≡ false) → None ≡ live_row rows v
unfolding live_row
live_row_none rows v k le before = sym (first_is_none (is_live_row rows v) (length rows) (λ j lt. before j (omega arith)))

some_or : (o : Option ℕ) → (o ≡ None → ⊥) → is_some o ≡ true
some_or None f = absurd (f refl)
some_or (Some k) f = refl

pub row_behind : (rows : List Row) (k j : ℕ) → k < j → j < length rows → (row_at rows j).chain ≡ (row_at rows k).chain → true ≡ has_row_behind rows k
unfolding has_row_behind
row_behind rows k j b lt e =
    sym (some_or (last_below (is_row_behind rows k) (length rows))
    (λ n. both_ways (is_row_behind rows k j) (last_none (is_row_behind rows k) (length rows) n j lt) (and_from _ _ (lt-ltb k j b) (eq-eqb _ _ e))))

pub no_row_behind : (rows : List Row) (k n : ℕ) → length rows ≤ n → ((j : ℕ) → k < j → j < n → (row_at rows j).chain ≢ (row_at rows k).chain) → false ≡ has_row_behind rows k
unfolding has_row_behind
no_row_behind rows k n le f =
    sym (ap is_some (last_is_none (is_row_behind rows k) (length rows)
    (λ j lt. false_from_ne_true (is_row_behind rows k j) (λ y. let p = and_parts (ltb k j) _ y in f j (ltb-true k j p.0) (omega arith) (eqb-true _ _ p.1)))))

-- ---- rows follow slots

pub row_is : (slots : List Slot) (k : ℕ) → row_at (rows_of slots) k ≡ row_of (slot_at slots k)
row_is slots k = get_or-map row_of slots k no_slot

pub rows_length : (slots : List Slot) → length (rows_of slots) ≡ length slots
rows_length slots = length-map slots row_of

same_first : (f g : ℕ → Bool) (m n : ℕ) → ((k : ℕ) → f k ≡ g k) → m ≡ n → first_below f m ≡ first_below g n
same_first f g m n h e = let fg : f ≡ g = λ i. λ k. h k i in ap (λ t. first_below t m) fg ∙ ap (first_below g) e

same_last : (f g : ℕ → Bool) (m n : ℕ) → ((k : ℕ) → f k ≡ g k) → m ≡ n → last_below f m ≡ last_below g n
same_last f g m n h e = let fg : f ≡ g = λ i. λ k. h k i in ap (λ t. last_below t m) fg ∙ ap (last_below g) e

live_follows : (slots : List Slot) (v : ℕ) → live_row (rows_of slots) v ≡ live_place slots v
unfolding live_row live_place
live_follows slots v =
    same_first (is_live_row (rows_of slots) v) (λ k. (slot_at slots k).is_live && eqb (slot_at slots k).volume v) (length (rows_of slots)) (length slots)
    (λ k. ap (λ (r : Row). r.is_live && eqb r.volume v) (row_is slots k)) (rows_length slots)

behind_follows : (slots : List Slot) (k : ℕ) → has_row_behind (rows_of slots) k ≡ has_after slots k
unfolding has_row_behind
behind_follows slots k =
    ap is_some (same_last (is_row_behind (rows_of slots) k) (λ j. ltb k j && eqb (slot_at slots j).chain (slot_at slots k).chain) (length (rows_of slots)) (length slots)
    (λ j. ap (λ (r : Row). ltb k j && eqb r.chain (row_at (rows_of slots) k).chain) (row_is slots j) ∙ ap (λ (r : Row). ltb k j && eqb (slot_at slots j).chain r.chain) (row_is slots k)) (rows_length slots))

remove_follows : (slots : List Slot) (k : ℕ) → rows_of (remove slots k) ≡ remove (rows_of slots) k
remove_follows slots k =
    map-append row_of (take k slots) (drop (suc k) slots) ∙ (ap (λ z. z ++ map row_of (drop (suc k) slots)) (sym (take-map row_of k slots)) ∙ ap (λ z. take k (rows_of slots) ++ z) (sym (drop-map row_of (suc k) slots)))

insert_follows : (slots : List Slot) (k : ℕ) (t : Slot) → rows_of (insert slots k t) ≡ insert (rows_of slots) k (row_of t)
insert_follows slots k t =
    map-append row_of (take k slots) (t ∷ drop k slots) ∙ (ap (λ z. z ++ row_of t ∷ map row_of (drop k slots)) (sym (take-map row_of k slots)) ∙ ap (λ z. take k (rows_of slots) ++ row_of t ∷ z) (sym (drop-map row_of k slots)))

aged_follows : (slots : List Slot) (k : ℕ) → rows_of (set slots k (record (slot_at slots k) { is_live = false })) ≡ set (rows_of slots) k (record (row_at (rows_of slots) k) { is_live = false })
aged_follows slots k =
    map-set row_of slots k (record (slot_at slots k) { is_live = false }) ∙ ap (λ (r : Row). set (rows_of slots) k (record r { is_live = false })) (sym (row_is slots k))

left_follows : (k : ℕ) (s : Sheet) → rows_of (left_place k s).slots ≡ row_left k (rows_of s.slots)
left_follows k s =
    elim (cases_Bool (has_after s.slots k)) [
      | inl y ↦ rw (y, behind_follows s.slots k, y) (aged_follows s.slots k)
      | inr n ↦ rw (n, behind_follows s.slots k, n) (remove_follows s.slots k)
    ]

placed_follows : (target m : ℕ) (held : List Bool) (k : ℕ) (s : Sheet) → rows_of (placed target m held k s).slots ≡ row_placed target k (rows_of s.slots)
placed_follows target m held k s =
    let new : Slot = record { birth = s.births; chain = (slot_at s.slots k).chain; volume = target; is_live = true; mapping = Some m; held = held } in
    insert_follows s.slots (k + 1) new ∙ ap (λ (r : Row). insert (rows_of s.slots) (k + 1) (record { chain = r.chain; volume = target; is_live = true })) (sym (row_is s.slots k))

at_follows : (f : ℕ → Sheet → Sheet) (g : ℕ → List Row → List Row) (o : Option ℕ) (s : Sheet) → ((k : ℕ) → rows_of (f k s).slots ≡ g k (rows_of s.slots)) → rows_of (at_place f o s).slots ≡ at_row g o (rows_of s.slots)
at_follows f g None s h = refl
at_follows f g (Some k) s h = h k

started_follows : (s : Sheet) (p : Pair) → rows_of (started_empty s p).slots ≡ rows_started (rows_of s.slots) p
started_follows s p =
    let t : Sheet = at_place left_place (live_place s.slots p.target.0) s in
    let left : List Row = at_row row_left (live_row (rows_of s.slots) p.target.0) (rows_of s.slots) in
    let a : rows_of t.slots ≡ left = at_follows left_place row_left (live_place s.slots p.target.0) s (λ k. left_follows k s) ∙ ap (λ o. at_row row_left o (rows_of s.slots)) (sym (live_follows s.slots p.target.0)) in
    at_follows (placed p.target.0 p.map.0 _) (row_placed p.target.0) (live_place t.slots p.source.0) t (λ k. placed_follows p.target.0 p.map.0 _ k t) ∙
    (ap (λ o. at_row (row_placed p.target.0) o (rows_of t.slots)) (sym (live_follows t.slots p.source.0)) ∙ ap (λ z. at_row (row_placed p.target.0) (live_row z p.source.0) z) a)

pub triggered_follows : (pairs : List Pair) (s : Sheet) → rows_of (triggered pairs s).slots ≡ rows_triggered pairs (rows_of s.slots)
triggered_follows [] s = refl
triggered_follows (p ∷ ps) s = triggered_follows ps (started_empty s p) ∙ ap (rows_triggered ps) (started_follows s p)

-- ---- and so do their edges

pub edge_of_slots : (slots : List Slot) (v w : ℕ) → Edge (row_shape (rows_of slots)) v w → Edge (shape_of slots) v w
edge_of_slots slots v w e =
    record {
      other = e.other;
      old = e.old;
      live = e.live;
      before = e.before;
      there = (let t : e.live < length (rows_of slots) = e.there in let l : length (rows_of slots) ≡ length slots = rows_length slots in omega arith);
      one_chain = ap (λ (r : Row). r.chain) (sym (row_is slots e.old)) ∙ (e.one_chain ∙ ap (λ (r : Row). r.chain) (row_is slots e.live));
      old_is_old = ap (λ (r : Row). r.is_live) (sym (row_is slots e.old)) ∙ e.old_is_old;
      old_is_from = ap (λ (r : Row). r.volume) (sym (row_is slots e.old)) ∙ e.old_is_from;
      live_is_live = ap (λ (r : Row). r.is_live) (sym (row_is slots e.live)) ∙ e.live_is_live;
      live_is_to = ap (λ (r : Row). r.volume) (sym (row_is slots e.live)) ∙ e.live_is_to;
    }

pub edge_of_rows : (slots : List Slot) (v w : ℕ) → Edge (shape_of slots) v w → Edge (row_shape (rows_of slots)) v w
edge_of_rows slots v w e =
    record {
      other = e.other;
      old = e.old;
      live = e.live;
      before = e.before;
      there = (let t : e.live < length slots = e.there in let l : length (rows_of slots) ≡ length slots = rows_length slots in omega arith);
      one_chain = ap (λ (r : Row). r.chain) (row_is slots e.old) ∙ (e.one_chain ∙ ap (λ (r : Row). r.chain) (sym (row_is slots e.live)));
      old_is_old = ap (λ (r : Row). r.is_live) (row_is slots e.old) ∙ e.old_is_old;
      old_is_from = ap (λ (r : Row). r.volume) (row_is slots e.old) ∙ e.old_is_from;
      live_is_live = ap (λ (r : Row). r.is_live) (row_is slots e.live) ∙ e.live_is_live;
      live_is_to = ap (λ (r : Row). r.volume) (row_is slots e.live) ∙ e.live_is_to;
    }

pub rows_together : (slots : List Slot) → IsContiguous slots → AreTogether (rows_of slots)
rows_together slots c i j k ij jk kl e =
    let l : length (rows_of slots) ≡ length slots = rows_length slots in
    ap (λ (r : Row). r.chain) (row_is slots j) ∙ (c i j k ij jk (omega arith) (ap (λ (r : Row). r.chain) (sym (row_is slots i)) ∙ (e ∙ ap (λ (r : Row). r.chain) (row_is slots k))) ∙ ap (λ (r : Row). r.chain) (sym (row_is slots k)))

-- rows on which a trigger was tried are those of the slots after it
pub tried : (s : Sheet) (pairs : List Pair) (slots : List Slot) (rows new after : List Row) → slots ≡ s.slots → rows ≡ rows_of slots → new ≡ rows_triggered pairs rows → after ≡ new → after ≡ rows_of (triggered pairs s).slots
tried s pairs slots rows new after same copied done read =
    read ∙ (done ∙ (ap (rows_triggered pairs) (copied ∙ ap rows_of same) ∙ sym (triggered_follows pairs s)))
