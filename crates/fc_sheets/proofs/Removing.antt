-- A slot is taken out, or put in: what of the facts stays.
use Rattle.std.proofs.Common.{◌≡◌, ◌≢◌, ℕ, ◌<◌, ◌≤◌, true, false, Some, None, List, length, get_or, refl, sym, ap, ◌∙◌, arith, inl, inr}
use Rattle.fc_base.specs.Column.{Shape}
use Rattle.fc_base.specs.Sheet.{Slot, slot_at, shape_of, column}
use Rattle.fc_base.specs.SheetFacts.{HasNames, HasSizes, HasMappings}
use Rattle.fc_base.specs.Need.{is_complete}
use Rattle.fc_base.specs.RestoreGraph.{HasOneLive, HasNoLoop, Edge, Way, Way.last_edge, Way.next_edge}
use Rattle.fc_moves.proofs.Readers.{IsHolder, holder_from}
use Rattle.fc_sheets.proofs.Places.{Removed, up, up_rises, up_le, le_up, up_in, down, removed_at, big_at, all_of_big, pairs_of_big, one_of_big, all_of_small, pairs_of_small, one_of_small}

-- ---- the facts as pairs of slots

abbrev pub OfChain : Slot → Slot → Type 0
OfChain a b = a.chain ≡ b.chain → length a.held ≡ length b.held

abbrev pub OfVolume : Slot → Slot → Type 0
OfVolume a b = a.volume ≡ b.volume → length a.held ≡ length b.held

abbrev pub SameBirth : Slot → Slot → Type 0
SameBirth a b = a.birth ≡ b.birth

abbrev pub Fresh : Slot → Slot → Type 0
Fresh a b = (m : ℕ) → a.mapping ≡ Some m → b.chain ≢ a.birth

abbrev pub SameMapping : Slot → Slot → Type 0
SameMapping a b = (m : ℕ) × (a.mapping ≡ Some m) × (b.mapping ≡ Some m)

abbrev pub BothLive : Slot → Slot → Type 0
BothLive a b = (a.is_live ≡ true) × (b.is_live ≡ true) × (a.volume ≡ b.volume)

abbrev pub IsFull : Slot → Type 0
IsFull a = a.is_live ≡ true → a.mapping ≡ None → is_complete a ≡ true

-- ---- taken out

pub names_small : (b : ℕ) (big small : List Slot) (p : ℕ) → Removed big small p → HasNames (record { births = b; slots = big }) → HasNames (record { births = b; slots = small })
names_small b big small p r n =
    record {
      births = all_of_small big small p r (λ t. t.birth < b) n.births;
      apart = one_of_small big small p r SameBirth n.apart;
      chains = all_of_small big small p r (λ t. t.chain < b) n.chains;
      fresh = λ i j m il jl e. pairs_of_small big small p r Fresh (λ i j il jl m e. n.fresh i j m il jl e) i j il jl m e;
    }

pub sizes_small : (big small : List Slot) (p : ℕ) → Removed big small p → HasSizes big → HasSizes small
sizes_small big small p r n = record { of_chain = pairs_of_small big small p r OfChain n.of_chain; of_volume = pairs_of_small big small p r OfVolume n.of_volume }

pub mappings_small : (big small : List Slot) (p : ℕ) → Removed big small p → HasMappings big → HasMappings small
mappings_small big small p r n =
    record {
      one_slot = λ i j m il jl e f. one_of_small big small p r SameMapping (λ i j il jl q. n.one_slot i j q.0 il jl q.1 q.2) i j il jl (m, e, f);
      complete = all_of_small big small p r IsFull n.complete;
    }

pub one_live_small : (big small : List Slot) (p : ℕ) → Removed big small p → HasOneLive (shape_of big) → HasOneLive (shape_of small)
one_live_small big small p r one i j il jl a b e =
    one_of_small big small p r BothLive (λ i j il jl q. one i j il jl q.0 q.1 q.2) i j il jl (a, b, e)

pub edge_small : (big small : List Slot) (p : ℕ) → Removed big small p → (v w : ℕ) → Edge (shape_of small) v w → Edge (shape_of big) v w
edge_small big small p r v w e =
    let o = removed_at big small p r e.old in
    let l = removed_at big small p r e.live in
    record {
      other = e.other;
      old = up p e.old;
      live = up p e.live;
      before = up_rises p e.old e.live e.before;
      there = up_in big small p r e.live e.there;
      one_chain = ap (λ (t : Slot). t.chain) (sym o) ∙ (e.one_chain ∙ ap (λ (t : Slot). t.chain) l);
      old_is_old = ap (λ (t : Slot). t.is_live) (sym o) ∙ e.old_is_old;
      old_is_from = ap (λ (t : Slot). t.volume) (sym o) ∙ e.old_is_from;
      live_is_live = ap (λ (t : Slot). t.is_live) (sym l) ∙ e.live_is_live;
      live_is_to = ap (λ (t : Slot). t.volume) (sym l) ∙ e.live_is_to;
    }

pub way_map : (s t : Shape) → ((v w : ℕ) → Edge s v w → Edge t v w) → (v w : ℕ) → Way s v w → Way t v w
way_map s t f v w (last_edge e) = last_edge (f v w e)
way_map s t f v x (next_edge {w = w} e k) = next_edge (f v w e) (way_map s t f w x k)

pub no_loop_small : (big small : List Slot) (p : ℕ) → Removed big small p → HasNoLoop (shape_of big) → HasNoLoop (shape_of small)
no_loop_small big small p r free v k = free v (way_map (shape_of small) (shape_of big) (edge_small big small p r) v v k)

-- ---- who holds for a live slot

-- some slot at or before `k` in its chain holds the grain
abbrev pub HeldFor : List Slot → ℕ → ℕ → Type 0
HeldFor slots g k = (h : ℕ) × IsHolder (column slots g) k h

pub held_for : (slots : List Slot) (g k j : ℕ) → j ≤ k → (slot_at slots j).chain ≡ (slot_at slots k).chain → get_or (slot_at slots j).held g false ≡ true → HeldFor slots g k
held_for slots g k j le q t = let x = holder_from (column slots g) k j le q t in (x.0, x.2)

pub held_small : (big small : List Slot) (p : ℕ) → Removed big small p → (g i h : ℕ) → i < length small → IsHolder (column big g) (up p i) h → h ≢ p → HeldFor small g i
held_small big small p r g i h il k ne =
    let inside : h < length big = (let a : up p i < length big = up_in big small p r i il in let b : h ≤ up p i = k.before in omega arith) in
    elim (down big small p r h inside) [
      | inl e ↦ absurd (ne e)
      | inr d ↦ let a = big_at big small p r d.0 h d.2 in
          held_for small g i d.0 (up_le p d.0 i (let b : h ≤ up p i = k.before in omega (arith, d.2)))
          (ap (λ (t : Slot). t.chain) (sym a) ∙ (k.one_chain ∙ ap (λ (t : Slot). t.chain) (sym (removed_at big small p r i))))
          (ap (λ (t : Slot). get_or t.held g false) (sym a) ∙ k.holds)
    ]

pub held_big : (big small : List Slot) (p : ℕ) → Removed big small p → (g i : ℕ) → HeldFor small g i → HeldFor big g (up p i)
held_big big small p r g i x =
    let k = x.1 in
    let a = removed_at big small p r x.0 in
    held_for big g (up p i) (up p x.0) (le_up p x.0 i k.before)
    (ap (λ (t : Slot). t.chain) (sym a) ∙ (k.one_chain ∙ ap (λ (t : Slot). t.chain) (removed_at big small p r i)))
    (ap (λ (t : Slot). get_or t.held g false) (sym a) ∙ k.holds)

-- ---- put in

pub names_big : (b c : ℕ) (big small : List Slot) (p : ℕ) → Removed big small p → HasNames (record { births = b; slots = small }) → b < c →
    (slot_at big p).birth ≡ b → (slot_at big p).chain < c →
    ((i m : ℕ) → i < length small → (slot_at small i).mapping ≡ Some m → (slot_at big p).chain ≢ (slot_at small i).birth) →
    ((m : ℕ) → (slot_at big p).mapping ≡ Some m → (slot_at big p).chain ≢ b) → HasNames (record { births = c; slots = big })
names_big b c big small p r n bc birth chain others own =
    record {
      births = all_of_big big small p r (λ t. t.birth < c) (omega (arith, birth)) (λ i il. let a : (slot_at small i).birth < b = n.births i il in omega arith);
      apart = one_of_big big small p r SameBirth
          (λ i il e. let a : (slot_at small i).birth < b = n.births i il in omega (arith, birth, e))
          (λ i il e. let a : (slot_at small i).birth < b = n.births i il in omega (arith, birth, e)) n.apart;
      chains = all_of_big big small p r (λ t. t.chain < c) chain (λ i il. let a : (slot_at small i).chain < b = n.chains i il in omega arith);
      fresh = λ i j m il jl e. pairs_of_big big small p r Fresh
          (λ m e q. own m e (q ∙ birth))
          (λ i il m e. others i m il e)
          (λ i il m e q. let a : (slot_at small i).chain < b = n.chains i il in omega (arith, birth, q))
          (λ i j il jl m e. n.fresh i j m il jl e) i j il jl m e;
    }

pub sizes_big : (big small : List Slot) (p : ℕ) → Removed big small p → HasSizes small →
    ((i : ℕ) → i < length small → (slot_at small i).chain ≡ (slot_at big p).chain → length (slot_at small i).held ≡ length (slot_at big p).held) →
    ((i : ℕ) → i < length small → (slot_at small i).volume ≡ (slot_at big p).volume → length (slot_at small i).held ≡ length (slot_at big p).held) → HasSizes big
sizes_big big small p r n chain volume =
    record {
      of_chain = pairs_of_big big small p r OfChain (λ e. refl) (λ i il e. chain i il e) (λ i il e. sym (chain i il (sym e))) n.of_chain;
      of_volume = pairs_of_big big small p r OfVolume (λ e. refl) (λ i il e. volume i il e) (λ i il e. sym (volume i il (sym e))) n.of_volume;
    }

pub mappings_big : (big small : List Slot) (p : ℕ) → Removed big small p → HasMappings small →
    ((i m : ℕ) → i < length small → (slot_at small i).mapping ≡ Some m → (slot_at big p).mapping ≡ Some m → ⊥) → IsFull (slot_at big p) → HasMappings big
mappings_big big small p r n apart full =
    record {
      one_slot = λ i j m il jl e f. one_of_big big small p r SameMapping (λ i il q. apart i q.0 il q.1 q.2) (λ i il q. apart i q.0 il q.2 q.1) (λ i j il jl q. n.one_slot i j q.0 il jl q.1 q.2) i j il jl (m, e, f);
      complete = all_of_big big small p r IsFull full n.complete;
    }

pub one_live_big : (big small : List Slot) (p : ℕ) → Removed big small p → HasOneLive (shape_of small) →
    ((i : ℕ) → i < length small → (slot_at small i).is_live ≡ true → (slot_at small i).volume ≢ (slot_at big p).volume) → HasOneLive (shape_of big)
one_live_big big small p r one apart i j il jl a b e =
    one_of_big big small p r BothLive (λ i il q. apart i il q.0 q.2) (λ i il q. apart i il q.1 (sym q.2)) (λ i j il jl q. one i j il jl q.0 q.1 q.2) i j il jl (a, b, e)
