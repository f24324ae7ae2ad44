-- Holders, readers and the slot behind another, as facts on places.
use Rattle.std.proofs.Common.{◌≡◌, ◌≢◌, ℕ, ◌+◌, ◌<◌, ◌≤◌, Bool, true, false, not, ◌&&◌, eqb, ltb, Option, Some, None, is_none, refl, sym, ap, ◌∙◌, arith, inl, inr}
use Rattle.std.proofs.lemmas.Bool.{both_ways, cases_lt, and_parts, and_from, eqb-true, eq-eqb, ne_eqb, eqb-false, ltb-true, lt-ltb, not-true, not_from_false, false_from_ne_true}
use Rattle.fc_base.specs.Column.{Column, last_below, is_at, holder, first_reader}
use Rattle.fc_base.specs.Moves.{none_holds_behind, next_behind}
use Rattle.fc_moves.proofs.Search.{cases_option, last_some, last_none, last_is, last_is_none, first_some, first_none, first_is, first_is_none}

-- `h` is the holder of `k`
pub record IsHolder (c : Column) (k h : ℕ) : Type 0 where
  pub before : h ≤ k
  pub one_chain : c.chain h ≡ c.chain k
  pub holds : c.held h ≡ true
  pub nearest : (j : ℕ) → h < j → j ≤ k → c.chain j ≡ c.chain k → c.held j ≡ true → ⊥

abbrev holds_for : Column → ℕ → ℕ → Bool
holds_for c k j = eqb (c.chain j) (c.chain k) && c.held j

holds_for_false : (c : Column) (k j : ℕ) → (c.chain j ≡ c.chain k → c.held j ≡ true → ⊥) → holds_for c k j ≡ false
holds_for_false c k j h =
    false_from_ne_true (holds_for c k j) (λ e. let p = and_parts _ _ e in h (eqb-true _ _ p.0) p.1)

pub holder_is : (c : Column) (k h : ℕ) → holder c k ≡ Some h → IsHolder c k h
unfolding holder
holder_is c k h e =
    let l = last_some (holds_for c k) (k + 1) h e in
    let p = and_parts (eqb (c.chain h) (c.chain k)) (c.held h) l.passes in
    record {
      before = omega (arith, l.below);
      one_chain = eqb-true _ _ p.0;
      holds = p.1;
      nearest = λ j a b q t. both_ways (holds_for c k j) (l.last j a (omega arith)) (and_from _ _ (eq-eqb _ _ q) t);
    }

pub is_holder : (c : Column) (k h : ℕ) → IsHolder c k h → holder c k ≡ Some h
unfolding holder
is_holder c k h i =
    last_is (holds_for c k) (k + 1) h (record {
      below = omega (arith, i.before);
      passes = and_from _ _ (eq-eqb _ _ i.one_chain) i.holds;
      last = λ j a b. holds_for_false c k j (i.nearest j a (omega arith));
    })

pub holder_none : (c : Column) (k : ℕ) → holder c k ≡ None → (j : ℕ) → j ≤ k → c.chain j ≡ c.chain k → c.held j ≡ true → ⊥
unfolding holder
holder_none c k e j b q t =
    both_ways (holds_for c k j) (last_none (holds_for c k) (k + 1) e j (omega arith)) (and_from _ _ (eq-eqb _ _ q) t)

-- where a slot of the chain at or before `k` holds, `k` has a holder, and it stands there or after
pub holder_from : (c : Column) (k j : ℕ) → j ≤ k → c.chain j ≡ c.chain k → c.held j ≡ true → (h : ℕ) × (j ≤ h) × IsHolder c k h
holder_from c k j b q t =
    elim (cases_option (holder c k)) [
      | inl e ↦ absurd (holder_none c k e j b q t)
      | inr s ↦ let i = holder_is c k s.0 s.1 in
          elim (cases_lt s.0 j) [ inl lt ↦ absurd (i.nearest j lt b q t) | inr ge ↦ (s.0, ge, i) ]
    ]

pub one_holder : (c : Column) (k h i : ℕ) → IsHolder c k h → IsHolder c k i → h ≡ i
one_holder c k h i p q = let e : Some h ≡ Some i = sym (is_holder c k h p) ∙ is_holder c k i q in cc

-- a slot that holds is its own holder
pub own_holder : (c : Column) (k : ℕ) → c.held k ≡ true → IsHolder c k k
own_holder c k t = record { before = omega arith; one_chain = refl; holds = t; nearest = λ j a b q u. omega arith }

-- a slot between a holder and its slot that itself doesn't hold has the same holder
pub holder_between : (c : Column) (k h j : ℕ) → IsHolder c k h → h ≤ j → j ≤ k → c.chain j ≡ c.chain k → IsHolder c j h
holder_between c k h j i a b q =
    record { before = a; one_chain = i.one_chain ∙ sym q; holds = i.holds; nearest = λ x u v w t. i.nearest x u (omega arith) (w ∙ q) t }

-- the first live slot other than `but` with holder `h`
pub record IsReader (c : Column) (but h a : ℕ) : Type 0 where
  pub there : a < c.count
  pub is_live : c.is_live a ≡ true
  pub other : a ≢ but
  pub reads : IsHolder c a h
  pub first : (k : ℕ) → k < a → c.is_live k ≡ true → k ≢ but → IsHolder c k h → ⊥

is_at-true : (o : Option ℕ) (h : ℕ) → is_at o h ≡ true → o ≡ Some h
is_at-true None h e = absurd cc
is_at-true (Some k) h e = ap Some (eqb-true k h e)

is_at-from : (o : Option ℕ) (h : ℕ) → o ≡ Some h → is_at o h ≡ true
is_at-from o h e = rw e (eq-eqb h h refl)

abbrev reads_at : Column → ℕ → ℕ → ℕ → Bool
reads_at c but h k = c.is_live k && (not (eqb k but) && is_at (holder c k) h)

reads_parts : (c : Column) (but h k : ℕ) → reads_at c but h k ≡ true → (c.is_live k ≡ true) × (k ≢ but) × IsHolder c k h
reads_parts c but h k e =
    let p = and_parts (c.is_live k) _ e in
    let q = and_parts (not (eqb k but)) _ p.1 in
    (p.0, eqb-false k but (not-true _ q.0), holder_is c k h (is_at-true _ h q.1))

reads_from : (c : Column) (but h k : ℕ) → c.is_live k ≡ true → k ≢ but → IsHolder c k h → reads_at c but h k ≡ true
reads_from c but h k l n i =
    and_from _ _ l (and_from _ _ (not_from_false _ (ne_eqb k but n)) (is_at-from _ h (is_holder c k h i)))

pub reader_is : (c : Column) (but h a : ℕ) → first_reader c but h ≡ Some a → IsReader c but h a
unfolding first_reader
reader_is c but h a e =
    let f = first_some (reads_at c but h) c.count a e in
    let p = reads_parts c but h a f.passes in
    record {
      there = f.below;
      is_live = p.0;
      other = p.1;
      reads = p.2;
      first = λ k lt l n i. both_ways (reads_at c but h k) (f.first k lt) (reads_from c but h k l n i);
    }

pub is_reader : (c : Column) (but h a : ℕ) → IsReader c but h a → first_reader c but h ≡ Some a
unfolding first_reader
is_reader c but h a r =
    first_is (reads_at c but h) c.count a (record {
      below = r.there;
      passes = reads_from c but h a r.is_live r.other r.reads;
      first = λ k lt. false_from_ne_true (reads_at c but h k) (λ e. let p = reads_parts c but h k e in r.first k lt p.0 p.1 p.2);
    })

pub reader_none : (c : Column) (but h : ℕ) → first_reader c but h ≡ None → (k : ℕ) → k < c.count → c.is_live k ≡ true → k ≢ but → IsHolder c k h → ⊥
unfolding first_reader
reader_none c but h e k lt l n i =
    both_ways (reads_at c but h k) (first_none (reads_at c but h) c.count e k lt) (reads_from c but h k l n i)

pub is_reader_none : (c : Column) (but h : ℕ) → ((k : ℕ) → k < c.count → c.is_live k ≡ true → k ≢ but → IsHolder c k h → ⊥) → first_reader c but h ≡ None
unfolding first_reader
is_reader_none c but h f =
    first_is_none (reads_at c but h) c.count (λ k lt. false_from_ne_true (reads_at c but h k) (λ e. let p = reads_parts c but h k e in f k lt p.0 p.1 p.2))

-- where some live slot reads at `h`, there is a first one, at or before it
pub reader_from : (c : Column) (but h k : ℕ) → k < c.count → c.is_live k ≡ true → k ≢ but → IsHolder c k h → (a : ℕ) × (a ≤ k) × (first_reader c but h ≡ Some a)
reader_from c but h k lt l n i =
    elim (cases_option (first_reader c but h)) [
      | inl e ↦ absurd (reader_none c but h e k lt l n i)
      | inr s ↦ let r = reader_is c but h s.0 s.1 in
          elim (cases_lt k s.0) [ inl early ↦ absurd (r.first k early l n i) | inr ge ↦ (s.0, ge, s.1) ]
    ]

-- a live slot behind `t` with no slot between that holds, and that doesn't hold itself
pub record Waits (c : Column) (t k : ℕ) : Type 0 where
  pub behind : t < k
  pub is_live : c.is_live k ≡ true
  pub one_chain : c.chain k ≡ c.chain t
  pub none_holds : (j : ℕ) → t < j → j ≤ k → c.chain j ≡ c.chain t → c.held j ≡ true → ⊥

pub record IsNext (c : Column) (t n : ℕ) : Type 0 where
  pub there : n < c.count
  pub waits : Waits c t n
  pub first : (k : ℕ) → k < n → Waits c t k → ⊥

abbrev holds_behind : Column → ℕ → ℕ → Bool
holds_behind c t j = ltb t j && (eqb (c.chain j) (c.chain t) && c.held j)

none_parts : (c : Column) (t k : ℕ) → none_holds_behind c t k ≡ true → (j : ℕ) → t < j → j ≤ k → c.chain j ≡ c.chain t → c.held j ≡ true → ⊥
none_parts c t k e j a b q h =
    elim (cases_option (last_below (holds_behind c t) (k + 1))) [
      | inl n ↦ both_ways (holds_behind c t j) (last_none _ (k + 1) n j (omega arith)) (and_from _ _ (lt-ltb t j a) (and_from _ _ (eq-eqb _ _ q) h))
      | inr s ↦ let f : is_none (last_below (holds_behind c t) (k + 1)) ≡ false = rw s.1 refl in both_ways _ f e
    ]

none_from : (c : Column) (t k : ℕ) → ((j : ℕ) → t < j → j ≤ k → c.chain j ≡ c.chain t → c.held j ≡ true → ⊥) → none_holds_behind c t k ≡ true
none_from c t k f =
    let e : last_below (holds_behind c t) (k + 1) ≡ None =
    last_is_none (holds_behind c t) (k + 1) (λ j lt. false_from_ne_true (holds_behind c t j) (λ h.
    let p = and_parts (ltb t j) _ h in
    let q = and_parts (eqb (c.chain j) (c.chain t)) _ p.1 in
    f j (ltb-true t j p.0) (omega arith) (eqb-true _ _ q.0) q.1)) in
    rw e refl

abbrev waits_at : Column → ℕ → ℕ → Bool
waits_at c t k = ltb t k && (c.is_live k && (eqb (c.chain k) (c.chain t) && none_holds_behind c t k))

waits_parts : (c : Column) (t k : ℕ) → waits_at c t k ≡ true → Waits c t k
waits_parts c t k e =
    let p = and_parts (ltb t k) _ e in
    let q = and_parts (c.is_live k) _ p.1 in
    let r = and_parts (eqb (c.chain k) (c.chain t)) _ q.1 in
    record { behind = ltb-true t k p.0; is_live = q.0; one_chain = eqb-true _ _ r.0; none_holds = none_parts c t k r.1 }

waits_from : (c : Column) (t k : ℕ) → Waits c t k → waits_at c t k ≡ true
waits_from c t k w =
    and_from _ _ (lt-ltb t k w.behind) (and_from _ _ w.is_live (and_from _ _ (eq-eqb _ _ w.one_chain) (none_from c t k w.none_holds)))

pub next_is : (c : Column) (t n : ℕ) → next_behind c t ≡ Some n → IsNext c t n
unfolding next_behind
next_is c t n e =
    let f = first_some (waits_at c t) c.count n e in
    record {
      there = f.below;
      waits = waits_parts c t n f.passes;
      first = λ k lt w. both_ways (waits_at c t k) (f.first k lt) (waits_from c t k w);
    }

pub is_next : (c : Column) (t n : ℕ) → IsNext c t n → next_behind c t ≡ Some n
unfolding next_behind
is_next c t n i =
    first_is (waits_at c t) c.count n (record {
      below = i.there;
      passes = waits_from c t n i.waits;
      first = λ k lt. false_from_ne_true (waits_at c t k) (λ e. i.first k lt (waits_parts c t k e));
    })

pub next_none : (c : Column) (t : ℕ) → next_behind c t ≡ None → (k : ℕ) → k < c.count → Waits c t k → ⊥
unfolding next_behind
next_none c t e k lt w = both_ways (waits_at c t k) (first_none (waits_at c t) c.count e k lt) (waits_from c t k w)

pub is_next_none : (c : Column) (t : ℕ) → ((k : ℕ) → k < c.count → Waits c t k → ⊥) → next_behind c t ≡ None
unfolding next_behind
is_next_none c t f =
    first_is_none (waits_at c t) c.count (λ k lt. false_from_ne_true (waits_at c t k) (λ e. f k lt (waits_parts c t k e)))

pub next_from : (c : Column) (t k : ℕ) → k < c.count → Waits c t k → (n : ℕ) × (n ≤ k) × (next_behind c t ≡ Some n)
next_from c t k lt w =
    elim (cases_option (next_behind c t)) [
      | inl e ↦ absurd (next_none c t e k lt w)
      | inr s ↦ let i = next_is c t s.0 s.1 in
          elim (cases_lt k s.0) [ inl early ↦ absurd (i.first k early w) | inr ge ↦ (s.0, ge, s.1) ]
    ]
