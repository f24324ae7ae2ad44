-- Which slots others need, and at how many grains.
use Rattle.std.proofs.Common.{◌≡◌, ◌≢◌, ℕ, zero, suc, ◌+◌, ◌<◌, ◌≤◌, Bool, true, false, cond, not, ◌&&◌, eqb, is_some, Option, Some, List, [], ◌∷◌, ◌++◌, length, get_or, take, drop, set, get_or-set_same, get_or-set_other, refl, sym, ap, subst, ◌∙◌, arith, inl, inr}
use Rattle.std.specs.Prelude.{Contains, replicate}
use Rattle.std.proofs.lemmas.Bool.{both_ways, cases_Bool, cases_eq, cases_lt, eq-eqb, ne_eqb}
use Rattle.std.proofs.lemmas.List.{append-nil, drop_all, length-set, take_all}
use Rattle.std.proofs.lemmas.List.Elements.{Contains-append_left, Contains-push, Contains-push_cases}
use Rattle.fc_base.specs.Column.{holder, needer}
use Rattle.fc_base.specs.Counts.{count_below, is_needed_at, need_count_of, is_unneeded}
use Rattle.fc_base.specs.Need.{ReadsAt}
use Rattle.fc_base.specs.Sheet.{Slot, slot_at, no_slot, column}
use Rattle.fc_moves.proofs.Readers.{IsHolder, holder_is, is_holder, reader_is, reader_from}
use Rattle.fc_moves.proofs.Search.{cases_option}
use Rattle.model_slots.specs.Answers.{IsWidth}
use Rattle.model_slots.proofs.Needs.{holder_within}
use Rattle.fc_check_sheet.specs.Needs.{AddsMarks, AreNeeded}

-- ---- readers of a slot

past_end : (slots : List Slot) (k : ℕ) → length slots ≤ k → slot_at slots k ≡ no_slot
past_end [] k le = refl
past_end (t ∷ slots) zero le = absurd (omega arith)
past_end (t ∷ slots) (suc k) le = past_end slots k (omega arith)

-- a live slot is one of the list
pub live_there : (slots : List Slot) (k : ℕ) → (slot_at slots k).is_live ≡ true → k < length slots
live_there slots k live =
    elim (cases_lt k (length slots)) [
      | inl lt ↦ lt
      | inr ge ↦ absurd (both_ways (slot_at slots k).is_live (ap (λ (t : Slot). t.is_live) (past_end slots k ge)) live)
    ]

pub never_reads : (slots : List Slot) (from d n : ℕ) → length (slot_at slots from).held ≤ n → ((g : ℕ) → g < n → holder (column slots g) d ≡ Some from → ⊥) → ReadsAt slots from from d → ⊥
never_reads slots from d n le none r =
    let lt : r.grain < length (slot_at slots from).held = holder_within slots r.grain d from r.reads in
    none r.grain (omega arith) r.reads

-- the readers among the slots so far
pub record ReadersBelow (slots : List Slot) (from n : ℕ) (places : List ℕ) : Type 0 where
  pub only : (d : ℕ) → Contains places d → ReadsAt slots from from d
  pub all : (d : ℕ) → d < n → ReadsAt slots from from d → Contains places d

pub one_reader : (slots : List Slot) (from n : ℕ) (places new : List ℕ) → ReadsAt slots from from n → new ≡ places ++ n ∷ [] → ReadersBelow slots from n places → ReadersBelow slots from (n + 1) new
one_reader slots from n places new r e s =
    let P : List ℕ → Type 0 = λ z. ReadersBelow slots from (n + 1) z in
    subst P (sym e) (record {
      only = λ d c. elim (Contains-push_cases places n d c) [ inl o ↦ s.only d o | inr q ↦ (let Q : ℕ → Type 0 = λ z. ReadsAt slots from from z in subst Q q r) ];
      all = λ d lt t. elim (cases_lt d n) [
        | inl l ↦ Contains-append_left places (n ∷ []) d (s.all d l t)
        | inr ge ↦ (let q : n ≡ d = omega arith in let Q : ℕ → Type 0 = λ z. Contains (places ++ n ∷ []) z in subst Q q (Contains-push places n))
      ];
    })

pub no_reader : (slots : List Slot) (from n : ℕ) (places : List ℕ) → (ReadsAt slots from from n → ⊥) → ReadersBelow slots from n places → ReadersBelow slots from (n + 1) places
no_reader slots from n places never s = record {
  only = s.only;
  all = λ d lt t. elim (cases_lt d n) [
    | inl l ↦ s.all d l t
    | inr ge ↦ (let q : d ≡ n = omega arith in let Q : ℕ → Type 0 = λ z. ReadsAt slots from from z in absurd (never (subst Q q t)))
  ];
}

-- ---- marks

pub adds_one : (P : ℕ → Type 0) (old : List Bool) (h : ℕ) → h < length old → P h → ((k : ℕ) → P k → k ≡ h) → AddsMarks P old (set old h true)
adds_one P old h lt p one = record {
  long = length-set old h true;
  only = λ k e. elim (cases_eq k h) [
    | inl q ↦ inr (subst P (sym q) p)
    | inr ne ↦ inl (sym (get_or-set_other old h k true false ne) ∙ e)
  ];
  kept = λ k e. elim (cases_eq k h) [
    | inl q ↦ marked k q
    | inr ne ↦ get_or-set_other old h k true false ne ∙ e
  ];
  added = λ k pk. marked k (one k pk);
}
  where
    marked : (k : ℕ) → k ≡ h → get_or (set old h true) k false ≡ true
    marked k q = ap (λ z. get_or (set old h true) z false) q ∙ get_or-set_same old h true false lt

-- the holder at one grain
pub adds_holder : (slots : List Slot) (place grain h : ℕ) (found : Option ℕ) (old new : List Bool) → found ≡ holder (column slots grain) place → found ≡ Some h → (h ≡ place → ⊥) → h < length old → new ≡ set old h true →
    AddsMarks (λ k. (place ≢ k) × (holder (column slots grain) place ≡ Some k)) old new
adds_holder slots place grain h found old new is f other lt e =
    let Q : ℕ → Type 0 = λ k. (place ≢ k) × (holder (column slots grain) place ≡ Some k) in
    let P : List Bool → Type 0 = λ z. AddsMarks Q old z in
    subst P (sym e) (adds_one Q old h lt ((λ q. other (sym q)), sym is ∙ f) (λ k p. (let q : Some k ≡ Some h = sym p.1 ∙ (sym is ∙ f) in cc)))

pub holder_there : (slots : List Slot) (place grain h : ℕ) (found : Option ℕ) → found ≡ holder (column slots grain) place → found ≡ Some h → h ≤ place
holder_there slots place grain h found is f = let i = holder_is (column slots grain) place h (sym is ∙ f) in i.before

-- those of the grains before one
abbrev pub ReadsBefore : List Slot → ℕ → ℕ → ℕ → Type 0
ReadsBefore slots place n k = (g : ℕ) × (g < n) × (place ≢ k) × (holder (column slots g) place ≡ Some k)

pub all_holders : (slots : List Slot) (place n width : ℕ) (old new : List Bool) → (slot_at slots place).is_live ≡ true → IsWidth slots width → width ≤ n → AddsMarks (ReadsBefore slots place n) old new →
    AddsMarks (λ k. ReadsAt slots k k place) old new
all_holders slots place n width old new live wide le a = record {
  long = a.long;
  only = λ k e. elim (a.only k e) [ inl o ↦ inl o | inr p ↦ inr (record { grain = p.0; there = live_there slots place live; is_live = live; other = p.2; reads = p.3 }) ];
  kept = a.kept;
  added = λ k r. a.added k (reads_before k r);
}
  where
    reads_before : (k : ℕ) → ReadsAt slots k k place → ReadsBefore slots place n k
    reads_before k r =
        let lt : r.grain < length (slot_at slots k).held = holder_within slots r.grain place k r.reads in
        let most : length (slot_at slots k).held ≤ width = wide.most k in
        (r.grain, omega arith, r.other, r.reads)

-- by the slots so far
pub record NeededBelow (slots : List Slot) (n : ℕ) (marks : List Bool) : Type 0 where
  pub long : length marks ≡ length slots
  pub only : (k : ℕ) → get_or marks k false ≡ true → (d : ℕ) × ReadsAt slots k k d
  pub all : (k d : ℕ) → d < n → ReadsAt slots k k d → get_or marks k false ≡ true

pub needed_more : (slots : List Slot) (n : ℕ) (now new : List Bool) → AddsMarks (λ k. ReadsAt slots k k n) now new → NeededBelow slots n now → NeededBelow slots (n + 1) new
needed_more slots n now new a s = record {
  long = a.long ∙ s.long;
  only = λ k e. elim (a.only k e) [ inl m ↦ s.only k m | inr r ↦ (n, r) ];
  all = λ k d lt r. elim (cases_lt d n) [
    | inl l ↦ a.kept k (s.all k d l r)
    | inr ge ↦ (let q : d ≡ n = omega arith in let Q : ℕ → Type 0 = λ z. ReadsAt slots k k z in a.added k (subst Q q r))
  ];
}

-- what is read back of marks that were handed out
pub written : (old new : List Bool) (n : ℕ) → n ≡ length old → length new ≡ length old → take n (new ++ drop (length new) old) ≡ new
written old new n size long =
    ap (λ z. take n (new ++ z)) (drop_all (length new) old (omega arith)) ∙ (ap (take n) (append-nil new) ∙ take_all n new (omega arith))

pub all_needed : (slots : List Slot) (n : ℕ) (marks : List Bool) → length slots ≤ n → NeededBelow slots n marks → AreNeeded slots marks
all_needed slots n marks le s = record {
  long = s.long;
  only = s.only;
  all = λ k d r. (let lt : d < length slots = r.there in s.all k d (omega arith) r);
}

-- ---- counts

count_zero : (test : ℕ → Bool) (n : ℕ) → ((j : ℕ) → j < n → test j ≡ false) → count_below test n ≡ 0
count_zero test zero none = refl
count_zero test (suc n) none = rw (none n (omega arith)) (count_zero test n (λ j lt. none j (omega arith)))

count_at : (b : Bool) (c : ℕ) → c ≤ cond b (c + 1) c
count_at true c = omega arith
count_at false c = omega arith

count_some : (test : ℕ → Bool) (n j : ℕ) → j < n → test j ≡ true → 0 < count_below test n
count_some test zero j lt t = absurd (omega arith)
count_some test (suc n) j lt t =
    elim (cases_eq j n) [
      | inl q ↦ (let here : test n ≡ true = ap test (sym q) ∙ t in rw here (omega arith))
      | inr ne ↦ (let before : 0 < count_below test n = count_some test n j (omega arith) t in let le = count_at (test n) (count_below test n) in omega arith)
    ]

reads_needed : (slots : List Slot) (k d : ℕ) → ReadsAt slots k k d → 0 < need_count_of slots k
reads_needed slots k d r =
    let h : IsHolder (column slots r.grain) d k = holder_is (column slots r.grain) d k r.reads in
    let a = reader_from (column slots r.grain) k k d r.there r.is_live r.other h in
    count_some (is_needed_at slots k) (length (slot_at slots k).held) r.grain (holder_within slots r.grain d k r.reads) (ap (λ (o : Option ℕ). is_some o) a.2)

never_needed : (slots : List Slot) (k : ℕ) → ((d : ℕ) → ReadsAt slots k k d → ⊥) → need_count_of slots k ≡ 0
never_needed slots k never =
    count_zero (is_needed_at slots k) (length (slot_at slots k).held) (λ g lt. elim (cases_option (needer (column slots g) k)) [
      | inl none ↦ ap (λ (o : Option ℕ). is_some o) none
      | inr a ↦ (let r = reader_is (column slots g) k k a.0 a.1 in
          absurd (never a.0 (record { grain = g; there = r.there; is_live = r.is_live; other = r.other; reads = is_holder (column slots g) a.0 k r.reads })))
    ])

pub unneeded_is : (slots : List Slot) (marks : List Bool) (k : ℕ) → AreNeeded slots marks → eqb (need_count_of slots k) 0 ≡ not (get_or marks k false)
unneeded_is slots marks k a =
    elim (cases_Bool (get_or marks k false)) [
      | inl t ↦ (let r = a.only k t in let some : 0 < need_count_of slots k = reads_needed slots k r.0 r.1 in ne_eqb (need_count_of slots k) 0 (omega arith) ∙ sym (ap not t))
      | inr f ↦ eq-eqb (need_count_of slots k) 0 (never_needed slots k (λ d r. both_ways (get_or marks k false) f (a.all k d r))) ∙ sym (ap not f)
    ]

pub unneeded_here : (slots : List Slot) (marks : List Bool) (k : ℕ) → AreNeeded slots marks → (slot_at slots k).is_live ≡ false → not (get_or marks k false) ≡ is_unneeded slots k
unneeded_here slots marks k a old = sym (unneeded_is slots marks k a) ∙ sym (ap (λ b. not b && eqb (need_count_of slots k) 0) old)
