-- What the counts say of needs, of those that depend on a slot and of volumes that are used as sources.
use Rattle.std.proofs.Common.{◌≡◌, ◌≢◌, ℕ, zero, suc, ◌+◌, ◌<◌, ◌≤◌, Bool, true, false, not, ◌&&◌, eqb, Option, Some, None, is_some, List, [], ◌∷◌, ◌++◌, length, get_or, refl, sym, ap, subst, ◌∙◌, arith, inl, inr}
use Rattle.std.specs.List.{Contains}
use Rattle.std.proofs.lemmas.Bool.{cases_Bool, both_ways, cases_eq, cases_order, eqb-true, eqb-false, eq-eqb, ne_eqb, and_parts, and_from, or_cases, or_left, or_right, not-true, not_from_false}
use Rattle.std.proofs.lemmas.List.Elements.{Contains-append_left, Contains-push, Contains-push_cases}
use Rattle.fc_base.specs.declared.ids.SlotId.{SlotId}
use Rattle.fc_base.specs.Column.{needer, holder, is_at}
use Rattle.fc_base.specs.Need.{IsNeeded, ReadsAt, IsDependent}
use Rattle.fc_base.specs.RestoreGraph.{IsUsed}
use Rattle.fc_base.specs.Sheet.{Slot, slot_at, shape_of, column}
use Rattle.fc_base.specs.SheetFacts.{HasSizes}
use Rattle.fc_base.specs.Sheet.{slot_id}
use Rattle.fc_base.specs.Counts.{count_below, is_needed_at, need_count_of, UsedAt, any_below, names_below, is_direct, is_unneeded}
use Rattle.fc_moves.proofs.Readers.{holder_is, reader_is}
use Rattle.fc_sheets.proofs.Finding.{at_true, at_from}

-- ---- counts, tests below a bound

pub count_none : (test : ℕ → Bool) (n : ℕ) → ((i : ℕ) → i < n → test i ≡ false) → count_below test n ≡ 0
count_none test zero f = refl
count_none test (suc n) f = let e : test n ≡ false = f n (omega arith) in rw e (count_none test n (λ i lt. f i (omega arith)))

count_some_more : (test : ℕ → Bool) (n i : ℕ) → i < suc n → test i ≡ true → (i < n → 0 < count_below test n) → 0 < count_below test (suc n)
count_some_more test n i lt e ih =
    elim (cases_Bool (test n)) [
      | inl t ↦ let q : count_below test (suc n) ≡ count_below test n + 1 = rw t refl in omega arith
      | inr f ↦ let q : count_below test (suc n) ≡ count_below test n = rw f refl in
          let ne : i ≢ n = λ s. both_ways (test n) f (ap test (sym s) ∙ e) in
          let r : 0 < count_below test n = ih (omega arith) in omega arith
    ]

pub count_some : (test : ℕ → Bool) (n i : ℕ) → i < n → test i ≡ true → 0 < count_below test n
count_some test zero i lt e = absurd (omega arith)
count_some test (suc n) i lt e = count_some_more test n i lt e (λ below. count_some test n i below e)

counted_more : (test : ℕ → Bool) (n : ℕ) → 0 < count_below test (suc n) → (0 < count_below test n → (i : ℕ) × (i < n) × (test i ≡ true)) → (i : ℕ) × (i < suc n) × (test i ≡ true)
counted_more test n lt ih =
    elim (cases_Bool (test n)) [
      | inl t ↦ (n, omega arith, t)
      | inr f ↦ let q : count_below test (suc n) ≡ count_below test n = rw f refl in
          let r : (i : ℕ) × (i < n) × (test i ≡ true) = ih (omega arith) in (r.0, omega (arith, r.1), r.2)
    ]

pub counted : (test : ℕ → Bool) (n : ℕ) → 0 < count_below test n → (i : ℕ) × (i < n) × (test i ≡ true)
counted test zero lt = absurd (omega arith)
counted test (suc n) lt = counted_more test n lt (counted test n)

pub any_found : (test : ℕ → Bool) (n : ℕ) → any_below test n ≡ true → (i : ℕ) × (i < n) × (test i ≡ true)
any_found test zero e = absurd cc
any_found test (suc n) e =
    elim (or_cases (any_below test n) (test n) e) [
      | inl p ↦ let r = any_found test n p in (r.0, omega (arith, r.1), r.2)
      | inr t ↦ (n, omega arith, t)
    ]

pub any_from : (test : ℕ → Bool) (n i : ℕ) → i < n → test i ≡ true → any_below test n ≡ true
any_from test zero i lt e = absurd (omega arith)
any_from test (suc n) i lt e =
    elim (cases_eq i n) [
      | inl q ↦ or_right (any_below test n) (test n) (ap test (sym q) ∙ e)
      | inr ne ↦ or_left (any_below test n) (test n) (any_from test n i (omega arith) e)
    ]

-- ---- needs

-- a grain that is held is one of the slot's
pub held_below : (held : List Bool) (g : ℕ) → get_or held g false ≡ true → g < length held
held_below [] g e = absurd cc
held_below (b ∷ bs) zero e = omega arith
held_below (b ∷ bs) (suc g) e = let r : g < length bs = held_below bs g e in omega arith

pub some_at : (o : Option ℕ) → is_some o ≡ true → (a : ℕ) × (o ≡ Some a)
some_at None e = absurd cc
some_at (Some a) e = (a, refl)

-- A slot is needed exactly where its count isn't 0.
pub needed_counts : (slots : List Slot) (k : ℕ) → IsNeeded slots k → 0 < need_count_of slots k
needed_counts slots k n =
    let r = reader_is (column slots n.0) k k n.1 n.2 in
    count_some (is_needed_at slots k) (length (slot_at slots k).held) n.0 (held_below (slot_at slots k).held n.0 r.reads.holds) (ap is_some n.2)

pub counted_needs : (slots : List Slot) (k : ℕ) → 0 < need_count_of slots k → IsNeeded slots k
counted_needs slots k lt =
    let r = counted (is_needed_at slots k) (length (slot_at slots k).held) lt in
    let a = some_at (needer (column slots r.0) k) r.2 in
    (r.0, a.0, a.1)

pub unneeded_none : (slots : List Slot) (k : ℕ) → need_count_of slots k ≡ 0 → IsNeeded slots k → ⊥
unneeded_none slots k e n = let lt : 0 < need_count_of slots k = needed_counts slots k n in omega arith

pub none_unneeded : (slots : List Slot) (k : ℕ) → (IsNeeded slots k → ⊥) → need_count_of slots k ≡ 0
none_unneeded slots k f =
    elim (cases_order (need_count_of slots k) 0) [
      | inl e ↦ e
      | inr r ↦ elim r [ inl lt ↦ absurd (omega arith) | inr lt ↦ absurd (f (counted_needs slots k lt)) ]
    ]

-- An unneeded slot is an old one that nobody needs.
pub record IsUnneeded (slots : List Slot) (k : ℕ) : Type 0 where
  pub is_old : (slot_at slots k).is_live ≡ false
  pub unneeded : IsNeeded slots k → ⊥

pub unneeded_is : (slots : List Slot) (k : ℕ) → is_unneeded slots k ≡ true → IsUnneeded slots k
unneeded_is slots k e =
    let p = and_parts (not (slot_at slots k).is_live) _ e in
    record { is_old = not-true _ p.0; unneeded = unneeded_none slots k (eqb-true _ _ p.1) }

pub is_unneeded_from : (slots : List Slot) (k : ℕ) → IsUnneeded slots k → is_unneeded slots k ≡ true
is_unneeded_from slots k u = and_from _ _ (not_from_false _ u.is_old) (eq-eqb _ _ (none_unneeded slots k u.unneeded))

-- ---- direct readers

-- past the last slot none is live
pub live_is_there : (slots : List Slot) (j : ℕ) → (slot_at slots j).is_live ≡ true → j < length slots
live_is_there [] j e = absurd cc
live_is_there (t ∷ ts) zero e = omega arith
live_is_there (t ∷ ts) (suc j) e = let r : j < length ts = live_is_there ts j e in omega arith

pub direct_is : (slots : List Slot) (k d : ℕ) → is_direct slots k d ≡ true → ReadsAt slots k k d
direct_is slots k d e =
    let p = and_parts ((slot_at slots d).is_live && not (eqb d k)) _ e in
    let q = and_parts (slot_at slots d).is_live _ p.0 in
    let r = any_found (λ g. is_at (holder (column slots g) d) k) (length (slot_at slots d).held) p.1 in
    record {
      grain = r.0;
      there = live_is_there slots d q.0;
      is_live = q.0;
      other = eqb-false d k (not-true _ q.1);
      reads = at_true (holder (column slots r.0) d) k r.2;
    }

reads_below : (slots : List Slot) (h d g : ℕ) → HasSizes slots → d < length slots → holder (column slots g) d ≡ Some h → g < length (slot_at slots d).held
reads_below slots h d g sizes there e =
    let i = holder_is (column slots g) d h e in
    let le : h ≤ d = i.before in
    let held : g < length (slot_at slots h).held = held_below (slot_at slots h).held g i.holds in
    let same : length (slot_at slots h).held ≡ length (slot_at slots d).held = sizes.of_chain h d (omega arith) there i.one_chain in
    omega arith

pub is_direct_from : (slots : List Slot) (k d : ℕ) → HasSizes slots → ReadsAt slots k k d → is_direct slots k d ≡ true
is_direct_from slots k d sizes r =
    and_from _ _ (and_from _ _ r.is_live (not_from_false _ (ne_eqb d k r.other)))
    (any_from (λ g. is_at (holder (column slots g) d) k) (length (slot_at slots d).held) r.grain (reads_below slots k d r.grain sizes r.there r.reads) (at_from (holder (column slots r.grain) d) k r.reads))

-- ---- those that depend

-- A direct reader depends, and so does a direct reader of one that depends.
pub depends_direct : (slots : List Slot) (k d : ℕ) → is_direct slots k d ≡ true → IsDependent slots k d
depends_direct slots k d e = IsDependent.direct (direct_is slots k d e)

pub depends_onward : (slots : List Slot) (k h d : ℕ) → IsDependent slots k h → is_direct slots h d ≡ true → d ≢ k → IsDependent slots k d
depends_onward slots k h d i e ne =
    let r = direct_is slots h d e in
    IsDependent.onward i (record { grain = r.grain; there = r.there; is_live = r.is_live; other = ne; reads = r.reads })

-- What has the direct readers, and with each of its members the member's direct readers, has all that depend.
pub closed_has_all : (slots : List Slot) (k : ℕ) (P : ℕ → Type 0) → HasSizes slots → ((d : ℕ) → is_direct slots k d ≡ true → P d) →
    ((h d : ℕ) → P h → is_direct slots h d ≡ true → d ≢ k → P d) → (d : ℕ) → IsDependent slots k d → P d
closed_has_all slots k P sizes first next d (IsDependent.direct r) = first d (is_direct_from slots k d sizes r)
closed_has_all slots k P sizes first next d (IsDependent.onward {e = h} i r) =
    elim (cases_eq d h) [
      | inl same ↦ subst P (sym same) (closed_has_all slots k P sizes first next h i)
      | inr ne ↦ next h d (closed_has_all slots k P sizes first next h i)
          (is_direct_from slots h d sizes (record { grain = r.grain; there = r.there; is_live = r.is_live; other = ne; reads = r.reads })) r.other
    ]

-- ---- names of those that pass

-- The list has the names of those that pass, and no others.
pub named_is : (slots : List Slot) (test : ℕ → Bool) (n : ℕ) (name : SlotId) → Contains (names_below slots test n) name → (k : ℕ) × (k < n) × (test k ≡ true) × (slot_id slots k ≡ name)
named_is slots test zero name c = absurd (omega (arith, c.1))
named_is slots test (suc n) name c =
    elim (cases_Bool (test n)) [
      | inl t ↦ let q : names_below slots test (suc n) ≡ names_below slots test n ++ slot_id slots n ∷ [] = rw t refl in
          let P : List SlotId → Type 0 = λ z. Contains z name in
          elim (Contains-push_cases (names_below slots test n) (slot_id slots n) name (subst P q c)) [
            | inl b ↦ let r = named_is slots test n name b in (r.0, omega (arith, r.1), r.2, r.3)
            | inr e ↦ (n, omega arith, t, e)
          ]
      | inr f ↦ let q : names_below slots test (suc n) ≡ names_below slots test n = rw f refl in
          let P : List SlotId → Type 0 = λ z. Contains z name in
          let r = named_is slots test n name (subst P q c) in (r.0, omega (arith, r.1), r.2, r.3)
    ]

pub is_named : (slots : List Slot) (test : ℕ → Bool) (n k : ℕ) → k < n → test k ≡ true → Contains (names_below slots test n) (slot_id slots k)
is_named slots test zero k lt e = absurd (omega arith)
is_named slots test (suc n) k lt e =
    let P : List SlotId → Type 0 = λ z. Contains z (slot_id slots k) in
    elim (cases_eq k n) [
      | inl same ↦
          let t : test n ≡ true = ap test (sym same) ∙ e in
          let q : names_below slots test (suc n) ≡ names_below slots test n ++ slot_id slots n ∷ [] = rw t refl in
          let Q : ℕ → Type 0 = λ z. Contains (names_below slots test (suc n)) (slot_id slots z) in
          let R : List SlotId → Type 0 = λ z. Contains z (slot_id slots n) in
          subst Q (sym same) (subst R (sym q) (Contains-push (names_below slots test n) (slot_id slots n)))
      | inr ne ↦
          let r = is_named slots test n k (omega arith) e in
          elim (cases_Bool (test n)) [
            | inl t ↦ let q : names_below slots test (suc n) ≡ names_below slots test n ++ slot_id slots n ∷ [] = rw t refl in
                subst P (sym q) (Contains-append_left (names_below slots test n) (slot_id slots n ∷ []) (slot_id slots k) r)
            | inr f ↦ let q : names_below slots test (suc n) ≡ names_below slots test n = rw f refl in subst P (sym q) r
          ]
    ]

-- ---- use as a source

pub used_is : (slots : List Slot) (v : ℕ) → UsedAt slots v → IsUsed (shape_of slots) v
used_is slots v u = record {
  slot = u.0;
  live = u.3.0;
  behind = u.3.2;
  there = u.3.1;
  one_chain = sym u.3.4;
  of_volume = u.2;
  live_is_live = u.3.3;
}

pub is_used : (slots : List Slot) (v : ℕ) → IsUsed (shape_of slots) v → UsedAt slots v
is_used slots v u =
    let there : u.live < length slots = u.there in
    let behind : u.slot < u.live = u.behind in
    (u.slot, omega arith, u.of_volume, (u.live, there, behind, u.live_is_live, sym u.one_chain))
