-- Loops over slots answer what the definitions say.
use Rattle.std.proofs.Common.{◌≡◌, ◌≢◌, ℕ, zero, suc, ◌+◌, ◌-◌, ◌<◌, ◌≤◌, true, false, Option, Some, None, List, [], ◌∷◌, length, get_or, refl, sym, ap, ◌∙◌, arith, ◌⊎◌, inl, inr}
use Rattle.std.proofs.lemmas.Bool.{and_from, eq-eqb, cases_order, cases_eq, cases_lt}
use Rattle.fc_base.specs.Column.{is_at, holder, first_reader}
use Rattle.fc_base.specs.Moves.{next_behind}
use Rattle.fc_base.specs.Sheet.{Slot, slot_at, no_slot, column, live_place, mapping_place, birth_place}
use Rattle.fc_base.specs.Counts.{LiveBehind}
use Rattle.fc_slots.specs.Contiguous.{IsContiguous}
use Rattle.fc_slots.specs.Found.{is_live_of, is_slot_of, is_born}
use Rattle.fc_slots.specs.Walks.{FirstWaiting, WaitsBehind}
use Rattle.fc_moves.proofs.Search.{first_is, first_is_none}
use Rattle.fc_moves.proofs.Readers.{IsHolder, is_holder, holder_is, is_reader, is_reader_none, Waits, is_next, is_next_none}

-- what is read at a place is the slot there
pub read_at : (slots : List Slot) (k : ℕ) (t : Slot) → k < length slots → t ≡ get_or slots k t → slot_at slots k ≡ t
read_at slots k t lt e = any_default slots k no_slot t lt ∙ sym e
  where
    any_default : (slots : List Slot) (k : ℕ) (d e : Slot) → k < length slots → get_or slots k d ≡ get_or slots k e
    any_default [] k d e lt = absurd (omega arith)
    any_default (x ∷ xs) zero d e lt = refl
    any_default (x ∷ xs) (suc k) d e lt = any_default xs k d e (omega arith)

pub live_found : (slots : List Slot) (v k : ℕ) (t : Slot) → k < length slots → t ≡ get_or slots k t → t.is_live ≡ true → t.volume ≡ v →
    ((j : ℕ) → j < k → is_live_of slots v j ≡ false) → Some k ≡ live_place slots v
unfolding live_place
live_found slots v k t lt e l q before =
    let r = read_at slots k t lt e in
    sym (first_is (is_live_of slots v) (length slots) k (record {
      below = lt;
      first = before;
      passes = and_from _ _ (ap (λ (x : Slot). x.is_live) r ∙ l) (eq-eqb _ _ (ap (λ (x : Slot). x.volume) r ∙ q));
    }))

pub live_not_found : (slots : List Slot) (v k : ℕ) → length slots ≤ k → ((j : ℕ) → j < k → is_live_of slots v j ≡ false) → None ≡ live_place slots v
unfolding live_place
live_not_found slots v k le before = sym (first_is_none (is_live_of slots v) (length slots) (λ j lt. before j (omega arith)))

pub mapping_found : (slots : List Slot) (m k : ℕ) (t : Slot) → k < length slots → t ≡ get_or slots k t → is_at t.mapping m ≡ true →
    ((j : ℕ) → j < k → is_slot_of slots m j ≡ false) → Some k ≡ mapping_place slots m
unfolding mapping_place
mapping_found slots m k t lt e q before =
    let r = read_at slots k t lt e in
    sym (first_is (is_slot_of slots m) (length slots) k (record { below = lt; first = before; passes = ap (λ (x : Slot). is_at x.mapping m) r ∙ q }))

pub mapping_not_found : (slots : List Slot) (m k : ℕ) → length slots ≤ k → ((j : ℕ) → j < k → is_slot_of slots m j ≡ false) → None ≡ mapping_place slots m
unfolding mapping_place
mapping_not_found slots m k le before = sym (first_is_none (is_slot_of slots m) (length slots) (λ j lt. before j (omega arith)))

pub birth_found : (slots : List Slot) (b k : ℕ) (t : Slot) → k < length slots → t ≡ get_or slots k t → t.birth ≡ b →
    ((j : ℕ) → j < k → is_born slots b j ≡ false) → Some k ≡ birth_place slots b
unfolding birth_place
birth_found slots b k t lt e q before =
    let r = read_at slots k t lt e in
    sym (first_is (is_born slots b) (length slots) k (record { below = lt; first = before; passes = eq-eqb _ _ (ap (λ (x : Slot). x.birth) r ∙ q) }))

pub birth_not_found : (slots : List Slot) (b k : ℕ) → length slots ≤ k → ((j : ℕ) → j < k → is_born slots b j ≡ false) → None ≡ birth_place slots b
unfolding birth_place
birth_not_found slots b k le before = sym (first_is_none (is_born slots b) (length slots) (λ j lt. before j (omega arith)))

-- ---- walks

abbrev pub NoneFrom : List Slot → ℕ → ℕ → ℕ → Type 0
NoneFrom slots g of bound =
    (j : ℕ) → bound ≤ j → j ≤ of → (slot_at slots j).chain ≡ (slot_at slots of).chain → get_or (slot_at slots j).held g false ≡ true → ⊥

pub holder_found : (slots : List Slot) (g of k : ℕ) → k ≤ of → (slot_at slots k).chain ≡ (slot_at slots of).chain → get_or (slot_at slots k).held g false ≡ true →
    NoneFrom slots g of (k + 1) → Some k ≡ holder (column slots g) of
holder_found slots g of k le q t none =
    sym (is_holder (column slots g) of k (record { before = le; one_chain = q; holds = t; nearest = λ j kj jk r u. none j (omega arith) jk r u }))

pub holder_not_found : (slots : List Slot) (g of : ℕ) → NoneFrom slots g of 0 → None ≡ holder (column slots g) of
holder_not_found slots g of none = elim_holder (holder (column slots g) of) refl
  where
    elim_holder : (o : Option ℕ) → holder (column slots g) of ≡ o → None ≡ o
    elim_holder None e = refl
    elim_holder (Some h) e = let i = holder_is (column slots g) of h e in absurd (none h (omega arith) i.before i.one_chain i.holds)

-- waiting behind a slot that holds is reading at it
reads_behind : (slots : List Slot) (g from k : ℕ) → get_or (slot_at slots from).held g false ≡ true → WaitsBehind slots g from k → IsHolder (column slots g) k from
reads_behind slots g from k t w =
    record { before = (let b : from < k = w.behind in omega arith); one_chain = sym w.one_chain; holds = t; nearest = λ j fj jk q u. w.none_holds j fj jk (q ∙ w.one_chain) u }

waits_behind : (slots : List Slot) (g from k : ℕ) → from < k → (slot_at slots k).is_live ≡ true → IsHolder (column slots g) k from → WaitsBehind slots g from k
waits_behind slots g from k lt l i =
    record { behind = lt; is_live = l; one_chain = sym i.one_chain; none_holds = λ j fj jk q u. i.nearest j fj jk (q ∙ i.one_chain) u }

-- a live reader at a slot that is old, or left out itself, stands behind it
stands_behind : (slots : List Slot) (g of but k : ℕ) → (of ≡ but) ⊎ ((slot_at slots of).is_live ≡ false) → (slot_at slots k).is_live ≡ true → k ≢ but → IsHolder (column slots g) k of → of < k
stands_behind slots g of but k apart l ne i =
    let le : of ≤ k = i.before in
    let differ : of ≢ k = λ e. elim apart [ inl same ↦ ne (sym e ∙ same) | inr old ↦ (let t : true ≡ false = sym l ∙ (ap (λ z. (slot_at slots z).is_live) (sym e) ∙ old) in cc) ] in
    omega arith

pub reader_found : (slots : List Slot) (g of but : ℕ) (o : Option ℕ) → (of ≡ but) ⊎ ((slot_at slots of).is_live ≡ false) → get_or (slot_at slots of).held g false ≡ true →
    FirstWaiting slots g of but o → o ≡ first_reader (column slots g) but of
reader_found slots g of but None apart t f =
    sym (is_reader_none (column slots g) but of (λ k kc l ne i. f k kc ne (waits_behind slots g of k (stands_behind slots g of but k apart l ne i) l i)))
reader_found slots g of but (Some a) apart t f =
    sym (is_reader (column slots g) but of a (record {
      there = f.there;
      is_live = f.waits.is_live;
      other = f.other;
      reads = reads_behind slots g of a t f.waits;
      first = λ k ka l ne i. f.first k ka ne (waits_behind slots g of k (stands_behind slots g of but k apart l ne i) l i);
    }))

pub reader_not_found : (slots : List Slot) (g of but : ℕ) → get_or (slot_at slots of).held g false ≡ false → None ≡ first_reader (column slots g) but of
reader_not_found slots g of but t =
    sym (is_reader_none (column slots g) but of (λ k kc l ne i. let u : true ≡ false = sym i.holds ∙ t in cc))

waits_to : (slots : List Slot) (g from k : ℕ) → WaitsBehind slots g from k → Waits (column slots g) from k
waits_to slots g from k w = record { behind = w.behind; is_live = w.is_live; one_chain = w.one_chain; none_holds = w.none_holds }

waits_from : (slots : List Slot) (g from k : ℕ) → Waits (column slots g) from k → WaitsBehind slots g from k
waits_from slots g from k w = record { behind = w.behind; is_live = w.is_live; one_chain = w.one_chain; none_holds = w.none_holds }

pub next_found : (slots : List Slot) (g of : ℕ) (o : Option ℕ) → FirstWaiting slots g of of o → o ≡ next_behind (column slots g) of
next_found slots g of None f =
    sym (is_next_none (column slots g) of (λ k kc w. f k kc (λ e. let b : of < k = w.behind in omega arith) (waits_from slots g of k w)))
next_found slots g of (Some a) f =
    sym (is_next (column slots g) of a (record {
      there = f.there;
      waits = waits_to slots g of a f.waits;
      first = λ k ka w. f.first k ka (λ e. let b : of < k = w.behind in omega arith) (waits_from slots g of k w);
    }))

pub holder_read : (slots : List Slot) (g of bound : ℕ) (s t : Slot) → of < length slots → s ≡ get_or slots of s → 0 < bound → bound ≤ of + 1 → t ≡ get_or slots (bound - 1) t → t.chain ≡ s.chain → get_or t.held g false ≡ true →
    NoneFrom slots g of bound → Some (bound - 1) ≡ holder (column slots g) of
holder_read slots g of bound s t ol es lt le et q h none =
    let a = read_at slots of s ol es in
    let b = read_at slots (bound - 1) t (omega arith) et in
    holder_found slots g of (bound - 1) (omega arith) (ap (λ (x : Slot). x.chain) b ∙ (q ∙ ap (λ (x : Slot). x.chain) (sym a))) (ap (λ (x : Slot). get_or x.held g false) b ∙ h)
    (λ j bj jo r u. none j (omega arith) jo r u)

-- ---- where a chain ends

-- the slot before the bound is of another chain: none before it is of this one
pub holder_ends : (slots : List Slot) (g of bound : ℕ) (s t : Slot) → IsContiguous slots → of < length slots → s ≡ get_or slots of s → 0 < bound → bound ≤ of + 1 → t ≡ get_or slots (bound - 1) t → t.chain ≢ s.chain →
    NoneFrom slots g of bound → None ≡ holder (column slots g) of
holder_ends slots g of bound s t c ol es lt le et ne none = holder_not_found slots g of none_at
  where
    last : ℕ
    last = bound - 1

    other : (slot_at slots last).chain ≢ (slot_at slots of).chain
    other e = ne (ap (λ (x : Slot). x.chain) (sym (read_at slots last t (omega arith) et)) ∙ (e ∙ ap (λ (x : Slot). x.chain) (read_at slots of s ol es)))

    none_at : NoneFrom slots g of 0
    none_at j a jo q u =
        elim (cases_order j last) [
          | inl e ↦ other (ap (λ z. (slot_at slots z).chain) (sym e) ∙ q)
          | inr r ↦ elim r [
            | inl low ↦ elim (cases_eq last of) [
              | inl same ↦ other (ap (λ z. (slot_at slots z).chain) same)
              | inr apart ↦ other (c j last of low (omega arith) ol q)
            ]
            | inr high ↦ none j (omega arith) jo q u
          ]
        ]

-- the slot at a place is of another chain: none from it on is of this one
pub waiting_ends : (slots : List Slot) (g from but place : ℕ) (s t : Slot) → IsContiguous slots → from < length slots → s ≡ get_or slots from s → from < place → place < length slots → t ≡ get_or slots place t → t.chain ≢ s.chain →
    ((j : ℕ) → j < place → j ≢ but → WaitsBehind slots g from j → ⊥) → FirstWaiting slots g from but None
waiting_ends slots g from but place s t c fl es lt pl et ne none k kl kb w =
    elim (cases_order k place) [
      | inl e ↦ other (ap (λ z. (slot_at slots z).chain) (sym e) ∙ w.one_chain)
      | inr r ↦ elim r [
        | inl low ↦ none k low kb w
        | inr high ↦ other (c from place k lt high kl (sym w.one_chain) ∙ w.one_chain)
      ]
    ]
  where
    other : (slot_at slots place).chain ≢ (slot_at slots from).chain
    other e = ne (ap (λ (x : Slot). x.chain) (sym (read_at slots place t pl et)) ∙ (e ∙ ap (λ (x : Slot). x.chain) (read_at slots from s fl es)))

-- the slot at a place holds the grain
pub waiting_held : (slots : List Slot) (g from but place : ℕ) (s t : Slot) → from < length slots → s ≡ get_or slots from s → from < place → place < length slots → t ≡ get_or slots place t → t.chain ≡ s.chain → get_or t.held g false ≡ true →
    ((j : ℕ) → j < place → j ≢ but → WaitsBehind slots g from j → ⊥) → FirstWaiting slots g from but None
waiting_held slots g from but place s t fl es lt pl et q h none k kl kb w =
    let a = read_at slots place t pl et in
    let b = read_at slots from s fl es in
    elim (cases_lt k place) [
      | inl low ↦ none k low kb w
      | inr high ↦ w.none_holds place lt high (ap (λ (x : Slot). x.chain) a ∙ (q ∙ ap (λ (x : Slot). x.chain) (sym b))) (ap (λ (x : Slot). get_or x.held g false) a ∙ h)
    ]

pub live_ends : (slots : List Slot) (k behind : ℕ) (s t : Slot) → IsContiguous slots → k < length slots → s ≡ get_or slots k s → k < behind → behind < length slots → t ≡ get_or slots behind t → t.chain ≢ s.chain →
    ((j : ℕ) → k < j → j < behind → (slot_at slots j).is_live ≡ true → (slot_at slots j).chain ≡ (slot_at slots k).chain → ⊥) → LiveBehind slots k → ⊥
live_ends slots k behind s t c kl es lt bl et ne none l =
    elim (cases_order l.0 behind) [
      | inl e ↦ other (ap (λ z. (slot_at slots z).chain) (sym e) ∙ l.4)
      | inr r ↦ elim r [
        | inl low ↦ none l.0 l.2 low l.3 l.4
        | inr high ↦ other (c k behind l.0 lt high l.1 (sym l.4) ∙ l.4)
      ]
    ]
  where
    other : (slot_at slots behind).chain ≢ (slot_at slots k).chain
    other e = ne (ap (λ (x : Slot). x.chain) (sym (read_at slots behind t bl et)) ∙ (e ∙ ap (λ (x : Slot). x.chain) (read_at slots k s kl es)))
