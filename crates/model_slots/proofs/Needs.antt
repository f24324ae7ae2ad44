-- Who needs a slot, and who depends on it.
use Rattle.std.proofs.Common.{◌≡◌, ◌≢◌, ◌⊎◌, ◌↔◌, ℕ, zero, suc, ◌+◌, ◌<◌, ◌≤◌, Bool, true, false, cond, Some, None, List, [], ◌∷◌, ◌++◌, length, get_or, max, IsTrue, refl, sym, ap, subst, ◌∙◌, arith, inl, inr}
use Rattle.std.specs.Prelude.{AllPairs, Contains}
use Rattle.std.proofs.lemmas.Bool.{cases_lt, both_ways}
use Rattle.std.proofs.lemmas.List.Elements.{Contains-get_or, Contains-append_left, Contains-push, Contains-push_cases}
use Rattle.std.proofs.lemmas.List.Quantifiers.{all_pairs_push}
use Rattle.fc_base.specs.Column.{holder, needer}
use Rattle.fc_base.specs.Need.{IsNeeded, IsDependent, IsDependent.direct, IsDependent.onward}
use Rattle.fc_base.specs.Sheet.{Slot, slot_at, column}
use Rattle.fc_moves.proofs.Readers.{IsHolder, holder_is, reader_is}
use Rattle.model_slots.specs.Answers.{HasDependents, IsWidth, ReadsListed, Joins}
use Rattle.model_slots.proofs.Columns.{past_end}

within : (xs : List Bool) (g : ℕ) → get_or xs g false ≡ true → g < length xs
within [] g e = let f : false ≡ true = e in absurd cc
within (x ∷ xs) zero e = omega arith
within (x ∷ xs) (suc g) e = let lt = within xs g e in omega arith

-- a slot that holds a grain has it
pub held_within : (slots : List Slot) (g k : ℕ) → (column slots g).held k ≡ true → g < length (slot_at slots k).held
held_within slots g k e = within (slot_at slots k).held g e

-- a needed grain is one of the slot's
pub needed_within : (slots : List Slot) (g k a : ℕ) → needer (column slots g) k ≡ Some a → g < length (slot_at slots k).held
needed_within slots g k a e = let r = reader_is (column slots g) k k a e in let i : IsHolder (column slots g) a k = r.reads in held_within slots g k i.holds

-- a holder's grain is one of the holder's
pub holder_within : (slots : List Slot) (g k h : ℕ) → holder (column slots g) k ≡ Some h → g < length (slot_at slots h).held
holder_within slots g k h e = let i = holder_is (column slots g) k h e in held_within slots g h i.holds

-- the most grains that a slot of the places so far has
pub record WidthSoFar (slots : List Slot) (n width : ℕ) : Type 0 where
  pub most : (k : ℕ) → k < n → length (slot_at slots k).held ≤ width
  pub reached : (k : ℕ) × (length (slot_at slots k).held ≡ width)

pub no_width : (slots : List Slot) → WidthSoFar slots 0 0
no_width slots = record { most = λ k lt. absurd (omega arith); reached = (length slots, ap (λ (t : Slot). length t.held) (past_end slots (length slots) (omega arith))) }

pub width_more : (slots : List Slot) (n width here new : ℕ) → WidthSoFar slots n width → here ≡ length (slot_at slots n).held → new ≡ max width here → WidthSoFar slots (n + 1) new
width_more slots n width here new s e q = record {
  most = λ k lt. elim (cases_lt k n) [
    | inl l ↦ (let m = s.most k l in omega arith)
    | inr ge ↦ (let same : n ≡ k = omega arith in let P : ℕ → Type 0 = λ z. length (slot_at slots z).held ≤ new in subst P same (omega arith))
  ];
  reached = elim (cases_lt width here) [
    | inl l ↦ (n, omega arith)
    | inr ge ↦ (s.reached.0, (let r : length (slot_at slots s.reached.0).held ≡ width = s.reached.1 in omega arith))
  ];
}

pub width_done : (slots : List Slot) (n width : ℕ) → length slots ≤ n → WidthSoFar slots n width → IsWidth slots width
width_done slots n width le s = record {
  most = λ k. elim (cases_lt k n) [
    | inl lt ↦ s.most k lt
    | inr ge ↦ (let z : length (slot_at slots k).held ≡ 0 = ap (λ (t : Slot). length t.held) (past_end slots k (omega arith)) in omega arith)
  ];
  reached = s.reached;
}

-- those of the places so far that depend on the slot
pub record SoFar (slots : List Slot) (on n : ℕ) (listed : List ℕ) : Type 0 where
  pub rising : AllPairs (λ x y. x < y) listed
  pub below : (d : ℕ) → Contains listed d → d < n
  pub only : (d : ℕ) → Contains listed d → IsDependent slots on d
  pub all : (d : ℕ) → d < n → IsDependent slots on d → Contains listed d

-- a dependent reads at the slot or at a dependent before it
pub record Reads (slots : List Slot) (on d : ℕ) : Type 0 where
  pub there : d < length slots
  pub is_live : (slot_at slots d).is_live ≡ true
  pub other : d ≢ on
  pub grain : ℕ
  pub holder_place : ℕ
  pub reads : holder (column slots grain) d ≡ Some holder_place
  pub from : (holder_place ≡ on) ⊎ ((holder_place < d) × IsDependent slots on holder_place)

pub reads_before : (slots : List Slot) (on d : ℕ) → IsDependent slots on d → Reads slots on d
reads_before slots on d (direct r) =
    record { there = r.there; is_live = r.is_live; other = r.other; grain = r.grain; holder_place = on; reads = r.reads; from = inl refl }
reads_before slots on d (onward {e} i r) = onward_reads (reads_before slots on e i)
  where
    onward_reads : Reads slots on e → Reads slots on d
    onward_reads before =
        let h = holder_is (column slots r.grain) d e r.reads in
        elim (cases_lt e d) [
          | inl lt ↦ record { there = r.there; is_live = r.is_live; other = r.other; grain = r.grain; holder_place = e; reads = r.reads; from = inr (lt, i) }
          | inr ge ↦ (let same : e ≡ d = (let b : e ≤ d = h.before in omega arith) in let P : ℕ → Type 0 = λ z. Reads slots on z in subst P same before)
        ]

-- nothing depends before the first place
pub none_yet : (slots : List Slot) (on : ℕ) (listed : List ℕ) → listed ≡ [] → SoFar slots on 0 listed
none_yet slots on listed e =
    let P : List ℕ → Type 0 = λ z. SoFar slots on 0 z in
    subst P (sym e) (record {
      rising = λ i j d lt jn. absurd (omega arith);
      below = λ d c. (let n : c.0 < 0 = c.1 in absurd (omega arith));
      only = λ d c. (let n : c.0 < 0 = c.1 in absurd (omega arith));
      all = λ d lt i. absurd (omega arith);
    })

joined : (slots : List Slot) (on n : ℕ) (listed : List ℕ) → SoFar slots on n listed → n < length slots → Joins slots on n listed → IsDependent slots on n
joined slots on n listed s lt j =
    let g = j.reads.0 in
    let h = j.reads.1 in
    let reads : holder (column slots g) n ≡ Some h = j.reads.2 in
    elim j.reads.3 [
      | inl q ↦ direct (record { grain = g; there = lt; is_live = j.is_live; other = j.other; reads = reads ∙ ap Some q })
      | inr c ↦ onward (s.only h c) (record { grain = g; there = lt; is_live = j.is_live; other = j.other; reads = reads })
    ]

joins_if : (slots : List Slot) (on n : ℕ) (listed : List ℕ) → SoFar slots on n listed → IsDependent slots on n → Joins slots on n listed
joins_if slots on n listed s i =
    let r = reads_before slots on n i in
    record {
      is_live = r.is_live;
      other = r.other;
      reads = (r.grain, r.holder_place, r.reads, elim r.from [ inl q ↦ inl q | inr p ↦ inr (s.all r.holder_place p.0 p.1) ]);
    }

pub one_more : (slots : List Slot) (on n : ℕ) (listed new : List ℕ) (b : Bool) → SoFar slots on n listed → n < length slots → (IsTrue b ↔ Joins slots on n listed) → new ≡ cond b (listed ++ n ∷ []) listed →
    SoFar slots on (n + 1) new
one_more slots on n listed new true s lt w e =
    let P : List ℕ → Type 0 = λ z. SoFar slots on (n + 1) z in
    let dep : IsDependent slots on n = joined slots on n listed s lt (w.0 refl) in
    subst P (sym e) (record {
      rising = all_pairs_push (λ x y. x < y) listed n s.rising (λ k d kn. s.below (get_or listed k d) (Contains-get_or listed k d kn));
      below = λ d c. elim (Contains-push_cases listed n d c) [ inl o ↦ (let q : d < n = s.below d o in omega arith) | inr q ↦ omega arith ];
      only = λ d c. elim (Contains-push_cases listed n d c) [ inl o ↦ s.only d o | inr q ↦ (let Q : ℕ → Type 0 = λ z. IsDependent slots on z in subst Q q dep) ];
      all = λ d dn i. elim (cases_lt d n) [
        | inl l ↦ Contains-append_left listed (n ∷ []) d (s.all d l i)
        | inr ge ↦ (let q : n ≡ d = omega arith in let Q : ℕ → Type 0 = λ z. Contains (listed ++ n ∷ []) z in subst Q q (Contains-push listed n))
      ];
    })
one_more slots on n listed new false s lt w e =
    let P : List ℕ → Type 0 = λ z. SoFar slots on (n + 1) z in
    subst P (sym e) (record {
      rising = s.rising;
      below = λ d c. (let q : d < n = s.below d c in omega arith);
      only = s.only;
      all = λ d dn i. elim (cases_lt d n) [
        | inl l ↦ s.all d l i
        | inr ge ↦ (let q : d ≡ n = omega arith in let Q : ℕ → Type 0 = λ z. IsDependent slots on z in let t : false ≡ true = w.1 (joins_if slots on n listed s (subst Q q i)) in absurd (both_ways false refl t))
      ];
    })

pub all_found : (slots : List Slot) (on n : ℕ) (listed : List ℕ) → SoFar slots on n listed → length slots ≤ n → HasDependents slots on listed
all_found slots on n listed s le =
    record { rising = s.rising; only = s.only; all = λ d i. (let r = reads_before slots on d i in let t : d < length slots = r.there in s.all d (omega arith) i) }

pub never_needed : (slots : List Slot) (place n : ℕ) → length (slot_at slots place).held ≤ n → ((g : ℕ) → g < n → needer (column slots g) place ≡ None) → IsNeeded slots place → ⊥
never_needed slots place n le none e =
    let g = e.0 in
    let some : needer (column slots g) place ≡ Some e.1 = e.2 in
    let lt = needed_within slots g place e.1 some in
    let q : None ≡ Some e.1 = sym (none g (omega arith)) ∙ some in absurd cc

pub never_reads : (slots : List Slot) (on place n width : ℕ) (listed : List ℕ) → ((k : ℕ) → length (slot_at slots k).held ≤ width) → width ≤ n →
    ((g h : ℕ) → g < n → holder (column slots g) place ≡ Some h → (h ≡ on) ⊎ Contains listed h → ⊥) → ReadsListed slots on place listed → ⊥
never_reads slots on place n width listed wide le none e =
    let g = e.0 in
    let some : holder (column slots g) place ≡ Some e.1 = e.2 in
    let lt = holder_within slots g place e.1 some in
    let w : length (slot_at slots e.1).held ≤ width = wide e.1 in
    none g e.1 (omega arith) some e.3

pub false_is : {P : Type 0} → (P → ⊥) → IsTrue false ↔ P
false_is none = (λ t. absurd (both_ways false refl t), λ p. absurd (none p))
