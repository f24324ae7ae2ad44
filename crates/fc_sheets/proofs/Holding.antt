-- A move, a write and a torn write keep the facts.
use Rattle.std.proofs.Common.{◌≡◌, ◌≢◌, ℕ, zero, suc, ◌<◌, Bool, true, false, not, ◌&&◌, eqb, List, [], ◌∷◌, length, get_or, set, map, refl, sym, ap, subst, ◌∙◌, arith, ◌⊎◌, inl, inr, length-set, get_or-set_same, get_or-set_other}
use Rattle.std.specs.List.{list_all}
use Rattle.std.proofs.lemmas.Bool.{cases_Bool, both_ways, cases_eq, eqb-true, eq-eqb, ne_eqb, and_parts, and_from, not_from_true}
use Rattle.fc_base.specs.declared.request.Side.{Side}
use Rattle.fc_base.specs.declared.request.Side.TheVariants.{Now, Under}
use Rattle.fc_base.specs.Sheet.{Slot, Sheet, slot_at, no_slot, shape_of, column}
use Rattle.fc_base.specs.SheetStep.{grain_taken, grain_kept, grain_lost, sheet_moved, sheet_written, sheet_torn}
use Rattle.fc_base.specs.SheetFacts.{HasAllHolders, IsSound}
use Rattle.fc_base.specs.SheetFits.{FitsTaken, FitsLost}
use Rattle.fc_base.specs.Need.{is_complete}
use Rattle.fc_base.specs.RestoreGraph.{Edge}
use Rattle.fc_moves.proofs.Readers.{IsHolder, holder_is, is_holder}
use Rattle.fc_sheets.proofs.Removing.{HeldFor, held_for, way_map}

-- ---- the list function

pub length_map : (f : Slot → Slot) (ts : List Slot) → length (map f ts) ≡ length ts
length_map f [] = refl
length_map f (t ∷ ts) = ap suc (length_map f ts)

pub at_map : (f : Slot → Slot) (ts : List Slot) (j : ℕ) → f no_slot ≡ no_slot → slot_at (map f ts) j ≡ f (slot_at ts j)
at_map f [] j e = sym e
at_map f (t ∷ ts) zero e = refl
at_map f (t ∷ ts) (suc j) e = at_map f ts j e

-- a change of one pair at most
pub record Regrained (f : Slot → Slot) : Type 0 where
  pub none : f no_slot ≡ no_slot
  pub birth : (t : Slot) → (f t).birth ≡ t.birth
  pub chain : (t : Slot) → (f t).chain ≡ t.chain
  pub volume : (t : Slot) → (f t).volume ≡ t.volume
  pub is_live : (t : Slot) → (f t).is_live ≡ t.is_live
  pub mapping : (t : Slot) → (f t).mapping ≡ t.mapping
  pub size : (t : Slot) → length (f t).held ≡ length t.held
  pub full : (t : Slot) → t.is_live ≡ true → is_complete t ≡ true → is_complete (f t) ≡ true

abbrev with_bits : Slot → List Bool → Slot
with_bits t held = record t { held = held }

complete_set : (held : List Bool) (g : ℕ) → list_all (λ b. b) held ≡ true → list_all (λ b. b) (set held g true) ≡ true
complete_set [] g e = e
complete_set (b ∷ bs) zero e = (and_parts b (list_all (λ x. x) bs) e).1
complete_set (b ∷ bs) (suc g) e = let p = and_parts b (list_all (λ x. x) bs) e in and_from _ _ p.0 (complete_set bs g p.1)

-- a slot either stays or gets one bit
pub record IsBit (f : Slot → Slot) (g : ℕ) : Type 0 where
  pub none : f no_slot ≡ no_slot
  pub either : (t : Slot) → (f t ≡ t) ⊎ ((b : Bool) × (f t ≡ with_bits t (set t.held g b)) × (t.is_live ≡ true → b ≡ true))

bit_at : (t : Slot) (g : ℕ) (b : Bool) → (t.is_live ≡ true → b ≡ true) → is_complete t ≡ true → t.is_live ≡ true → is_complete (with_bits t (set t.held g b)) ≡ true
bit_at t g b e full l = ap (λ x. list_all (λ y. y) (set t.held g x)) (e l) ∙ complete_set t.held g full

pub regrained : (f : Slot → Slot) (g : ℕ) → IsBit f g → Regrained f
regrained f g i = record {
  none = i.none;
  birth = λ t. elim (i.either t) [ inl e ↦ ap (λ (z : Slot). z.birth) e | inr e ↦ ap (λ (z : Slot). z.birth) e.1 ];
  chain = λ t. elim (i.either t) [ inl e ↦ ap (λ (z : Slot). z.chain) e | inr e ↦ ap (λ (z : Slot). z.chain) e.1 ];
  volume = λ t. elim (i.either t) [ inl e ↦ ap (λ (z : Slot). z.volume) e | inr e ↦ ap (λ (z : Slot). z.volume) e.1 ];
  is_live = λ t. elim (i.either t) [ inl e ↦ ap (λ (z : Slot). z.is_live) e | inr e ↦ ap (λ (z : Slot). z.is_live) e.1 ];
  mapping = λ t. elim (i.either t) [ inl e ↦ ap (λ (z : Slot). z.mapping) e | inr e ↦ ap (λ (z : Slot). z.mapping) e.1 ];
  size = λ t. elim (i.either t) [ inl e ↦ ap (λ (z : Slot). length z.held) e | inr e ↦ ap (λ (z : Slot). length z.held) e.1 ∙ length-set t.held g e.0 ];
  full = λ t l c. elim (i.either t) [ inl e ↦ ap is_complete e ∙ c | inr e ↦ ap is_complete e.1 ∙ bit_at t g e.0 e.2 c l ];
}

-- ---- the three changes

taken_on : (v g : ℕ) (t : Slot) → t.volume ≡ v → grain_taken v g t ≡ with_bits t (set t.held g t.is_live)
taken_on v g t e = rw (eq-eqb t.volume v e) refl

taken_off : (v g : ℕ) (t : Slot) → t.volume ≢ v → grain_taken v g t ≡ t
taken_off v g t ne = rw (ne_eqb t.volume v ne) refl

none_taken : (v g : ℕ) → grain_taken v g no_slot ≡ no_slot
none_taken v g = elim (cases_Bool (eqb 0 v)) [ inl t ↦ rw t refl | inr f ↦ rw f refl ]

pub bit_taken : (v g : ℕ) → IsBit (grain_taken v g) g
bit_taken v g = record {
  none = none_taken v g;
  either = λ t. elim (cases_eq t.volume v) [ inl e ↦ inr (t.is_live, taken_on v g t e, λ l. l) | inr ne ↦ inl (taken_off v g t ne) ];
}

pub bit_kept : (v g : ℕ) → IsBit (grain_kept v g) g
bit_kept v g = record {
  none = refl;
  either = λ t. elim (cases_Bool (t.is_live && eqb t.volume v)) [ inl y ↦ inr (true, rw y refl, λ l. refl) | inr n ↦ inl (rw n refl) ];
}

none_lost : (v g : ℕ) → grain_lost v g no_slot ≡ no_slot
none_lost v g = elim (cases_Bool (eqb 0 v)) [ inl t ↦ rw t refl | inr f ↦ rw f refl ]

pub bit_lost : (v g : ℕ) → IsBit (grain_lost v g) g
bit_lost v g = record {
  none = none_lost v g;
  either = λ t. elim (cases_Bool (not t.is_live && eqb t.volume v)) [
    | inl y ↦ inr (false, rw y refl, λ l. absurd (both_ways _ (not_from_true t.is_live l) ((and_parts (not t.is_live) _ y).0)))
    | inr n ↦ inl (rw n refl)
  ];
}

-- ---- the facts, but those on holders

edge_regrained : (f : Slot → Slot) → Regrained f → (slots : List Slot) (v w : ℕ) → Edge (shape_of (map f slots)) v w → Edge (shape_of slots) v w
edge_regrained f r slots v w e =
    let o = at_map f slots e.old r.none in
    let l = at_map f slots e.live r.none in
    let c : length (map f slots) ≡ length slots = length_map f slots in
    let there : e.live < length (map f slots) = e.there in
    record {
      other = e.other;
      old = e.old;
      live = e.live;
      before = e.before;
      there = omega arith;
      one_chain = sym (r.chain (slot_at slots e.old)) ∙ (ap (λ (t : Slot). t.chain) (sym o) ∙ (e.one_chain ∙ (ap (λ (t : Slot). t.chain) l ∙ r.chain (slot_at slots e.live))));
      old_is_old = sym (r.is_live (slot_at slots e.old)) ∙ (ap (λ (t : Slot). t.is_live) (sym o) ∙ e.old_is_old);
      old_is_from = sym (r.volume (slot_at slots e.old)) ∙ (ap (λ (t : Slot). t.volume) (sym o) ∙ e.old_is_from);
      live_is_live = sym (r.is_live (slot_at slots e.live)) ∙ (ap (λ (t : Slot). t.is_live) (sym l) ∙ e.live_is_live);
      live_is_to = sym (r.volume (slot_at slots e.live)) ∙ (ap (λ (t : Slot). t.volume) (sym l) ∙ e.live_is_to);
    }

pub map_sound : (f : Slot → Slot) → Regrained f → (s : Sheet) → IsSound s → HasAllHolders (map f s.slots) → IsSound (record { births = s.births; slots = map f s.slots })
map_sound f r s i holders =
    let new : List Slot = map f s.slots in
    let c : length new ≡ length s.slots = length_map f s.slots in
    let birth = λ (j : ℕ). ap (λ (t : Slot). t.birth) (at_map f s.slots j r.none) ∙ r.birth (slot_at s.slots j) in
    let chain = λ (j : ℕ). ap (λ (t : Slot). t.chain) (at_map f s.slots j r.none) ∙ r.chain (slot_at s.slots j) in
    let volume = λ (j : ℕ). ap (λ (t : Slot). t.volume) (at_map f s.slots j r.none) ∙ r.volume (slot_at s.slots j) in
    let live = λ (j : ℕ). ap (λ (t : Slot). t.is_live) (at_map f s.slots j r.none) ∙ r.is_live (slot_at s.slots j) in
    let mapping = λ (j : ℕ). ap (λ (t : Slot). t.mapping) (at_map f s.slots j r.none) ∙ r.mapping (slot_at s.slots j) in
    let size = λ (j : ℕ). ap (λ (t : Slot). length t.held) (at_map f s.slots j r.none) ∙ r.size (slot_at s.slots j) in
    record {
      names = record {
        births = λ k kl. subst (λ x. x < s.births) (sym (birth k)) (i.names.births k (omega arith));
        apart = λ a b al bl e. i.names.apart a b (omega arith) (omega arith) (sym (birth a) ∙ (e ∙ birth b));
        chains = λ k kl. subst (λ x. x < s.births) (sym (chain k)) (i.names.chains k (omega arith));
        fresh = λ a b m al bl e q. i.names.fresh a b m (omega arith) (omega arith) (sym (mapping a) ∙ e) (sym (chain b) ∙ (q ∙ birth a));
      };
      sizes = record {
        of_chain = λ a b al bl e. size a ∙ (i.sizes.of_chain a b (omega arith) (omega arith) (sym (chain a) ∙ (e ∙ chain b)) ∙ sym (size b));
        of_volume = λ a b al bl e. size a ∙ (i.sizes.of_volume a b (omega arith) (omega arith) (sym (volume a) ∙ (e ∙ volume b)) ∙ sym (size b));
      };
      mappings = record {
        one_slot = λ a b m al bl e q. i.mappings.one_slot a b m (omega arith) (omega arith) (sym (mapping a) ∙ e) (sym (mapping b) ∙ q);
        complete = λ k kl l e. ap is_complete (at_map f s.slots k r.none) ∙ r.full (slot_at s.slots k) (sym (live k) ∙ l) (i.mappings.complete k (omega arith) (sym (live k) ∙ l) (sym (mapping k) ∙ e));
      };
      one_live = λ a b al bl p q e. i.one_live a b (omega arith) (omega arith) (sym (live a) ∙ p) (sym (live b) ∙ q) (sym (volume a) ∙ (e ∙ volume b));
      lives = λ k kl. let x = i.lives k (omega arith) in (x.0, omega (arith, x.1), live x.0 ∙ x.2, volume x.0 ∙ (x.3 ∙ sym (volume k)));
      holders = holders;
      no_loop = λ v way. i.no_loop v (way_map (shape_of new) (shape_of s.slots) (edge_regrained f r s.slots) v v way);
    }

-- ---- who holds

-- what a slot holds at a grain after the change, by what it holds before
bit_other : (f : Slot → Slot) (g : ℕ) → IsBit f g → (t : Slot) (x : ℕ) → x ≢ g → get_or (f t).held x false ≡ get_or t.held x false
bit_other f g i t x ne =
    elim (i.either t) [
      | inl e ↦ ap (λ (z : Slot). get_or z.held x false) e
      | inr e ↦ ap (λ (z : Slot). get_or z.held x false) e.1 ∙ (let ne' : x ≢ g = ne in rw get_or-set_other refl)
    ]

-- all holders stay, where each live slot's holder at the grain keeps its pair or the slot itself gets one
pub map_holders : (f : Slot → Slot) (g : ℕ) → IsBit f g → (s : Sheet) → IsSound s →
    ((k h : ℕ) → k < length s.slots → (slot_at s.slots k).is_live ≡ true → g < length (slot_at s.slots k).held → IsHolder (column s.slots g) k h →
    (get_or (f (slot_at s.slots h)).held g false ≡ true) ⊎ (get_or (f (slot_at s.slots k)).held g false ≡ true)) →
    HasAllHolders (map f s.slots)
map_holders f g b s i keeps x k kl l xl =
    let r = regrained f g b in
    let new : List Slot = map f s.slots in
    let c : length new ≡ length s.slots = length_map f s.slots in
    let e = at_map f s.slots k b.none in
    let live : (slot_at s.slots k).is_live ≡ true = sym (r.is_live (slot_at s.slots k)) ∙ (ap (λ (t : Slot). t.is_live) (sym e) ∙ l) in
    let size : length (slot_at new k).held ≡ length (slot_at s.slots k).held = ap (λ (t : Slot). length t.held) e ∙ r.size (slot_at s.slots k) in
    let old = i.holders x k (omega arith) live (omega arith) in
    let h = holder_is (column s.slots x) k old.0 old.1 in
    let eh = at_map f s.slots old.0 b.none in
    let one : (slot_at new old.0).chain ≡ (slot_at new k).chain =
    ap (λ (t : Slot). t.chain) eh ∙ (r.chain (slot_at s.slots old.0) ∙ (h.one_chain ∙ (sym (r.chain (slot_at s.slots k)) ∙ ap (λ (t : Slot). t.chain) (sym e)))) in
    let y : HeldFor new x k = elim (cases_eq x g) [
      | inr ne ↦ held_for new x k old.0 h.before one (ap (λ (t : Slot). get_or t.held x false) eh ∙ (bit_other f g b (slot_at s.slots old.0) x ne ∙ h.holds))
      | inl same ↦ elim (keeps k old.0 (omega arith) live (omega arith) (subst (λ (z : ℕ). IsHolder (column s.slots z) k old.0) same h)) [
        | inl a ↦ held_for new x k old.0 h.before one (ap (λ (t : Slot). get_or t.held x false) eh ∙ (ap (λ z. get_or (f (slot_at s.slots old.0)).held z false) same ∙ a))
        | inr a ↦ held_for new x k k (omega arith) refl (ap (λ (t : Slot). get_or t.held x false) e ∙ (ap (λ z. get_or (f (slot_at s.slots k)).held z false) same ∙ a))
      ]
    ] in
    (y.0, is_holder (column new x) k y.0 y.1)

set_here : (held : List Bool) (g : ℕ) (b : Bool) → g < length held → get_or (set held g b) g false ≡ b
set_here held g b lt = get_or-set_same held g b false lt

pub held_in_range : (held : List Bool) (g : ℕ) → get_or held g false ≡ true → g < length held
held_in_range [] g e = absurd cc
held_in_range (b ∷ bs) zero e = omega arith
held_in_range (b ∷ bs) (suc g) e = let r = held_in_range bs g e in omega arith

taken_holds : (v g : ℕ) (t : Slot) → get_or t.held g false ≡ true → (t.is_live ≡ true) ⊎ (t.volume ≢ v) → get_or (grain_taken v g t).held g false ≡ true
taken_holds v g t e w =
    elim (cases_eq t.volume v) [
      | inr ne ↦ ap (λ (z : Slot). get_or z.held g false) (taken_off v g t ne) ∙ e
      | inl same ↦ elim w [
        | inr ne ↦ absurd (ne same)
        | inl l ↦ ap (λ (z : Slot). get_or z.held g false) (taken_on v g t same) ∙ (set_here t.held g t.is_live (held_in_range t.held g e) ∙ l)
      ]
    ]

taken_gets : (v g : ℕ) (t : Slot) → t.is_live ≡ true → t.volume ≡ v → g < length t.held → get_or (grain_taken v g t).held g false ≡ true
taken_gets v g t l same lt = ap (λ (z : Slot). get_or z.held g false) (taken_on v g t same) ∙ (set_here t.held g t.is_live lt ∙ l)

pub written_sound : (s : Sheet) (v g : ℕ) → IsSound s → FitsTaken s.slots v g → IsSound (sheet_written v g s)
written_sound s v g i f =
    map_sound (grain_taken v g) (regrained (grain_taken v g) g (bit_taken v g)) s i
    (map_holders (grain_taken v g) g (bit_taken v g) s i (λ k h kl l gl r.
    elim (cases_Bool (slot_at s.slots h).is_live) [
      | inl live ↦ inl (taken_holds v g (slot_at s.slots h) r.holds (inl live))
      | inr old ↦ elim (cases_eq (slot_at s.slots h).volume v) [
        | inr ne ↦ inl (taken_holds v g (slot_at s.slots h) r.holds (inr ne))
        | inl same ↦ inr (taken_gets v g (slot_at s.slots k) l (f k h kl l (is_holder (column s.slots g) k h r) old same) gl)
      ]
    ]))

kept_holds : (v g : ℕ) (t : Slot) → get_or t.held g false ≡ true → get_or (grain_kept v g t).held g false ≡ true
kept_holds v g t e =
    elim (cases_Bool (t.is_live && eqb t.volume v)) [
      | inl y ↦ let q : grain_kept v g t ≡ with_bits t (set t.held g true) = rw y refl in ap (λ (z : Slot). get_or z.held g false) q ∙ set_here t.held g true (held_in_range t.held g e)
      | inr n ↦ let q : grain_kept v g t ≡ t = rw n refl in ap (λ (z : Slot). get_or z.held g false) q ∙ e
    ]

pub kept_sound : (s : Sheet) (v g : ℕ) → IsSound s → IsSound (record { births = s.births; slots = map (grain_kept v g) s.slots })
kept_sound s v g i =
    map_sound (grain_kept v g) (regrained (grain_kept v g) g (bit_kept v g)) s i
    (map_holders (grain_kept v g) g (bit_kept v g) s i (λ k h kl l gl r. inl (kept_holds v g (slot_at s.slots h) r.holds)))

pub moved_sound : (s : Sheet) (v g : ℕ) (in_place : Bool) → IsSound s → (in_place ≡ false → FitsTaken s.slots v g) → IsSound (sheet_moved v g in_place s)
moved_sound s v g true i f = kept_sound s v g i
moved_sound s v g false i f = written_sound s v g i (f refl)

lost_holds : (v g : ℕ) (t : Slot) → get_or t.held g false ≡ true → (t.is_live ≡ true) ⊎ (t.volume ≢ v) → get_or (grain_lost v g t).held g false ≡ true
lost_holds v g t e w =
    let stays : (not t.is_live && eqb t.volume v) ≡ false = elim (cases_Bool (not t.is_live && eqb t.volume v)) [
      | inr n ↦ n
      | inl y ↦ absurd (let p = and_parts (not t.is_live) (eqb t.volume v) y in elim w [
        | inl l ↦ both_ways _ (not_from_true t.is_live l) p.0
        | inr ne ↦ ne (eqb-true t.volume v p.1)
      ])
    ] in
    let q : grain_lost v g t ≡ t = rw stays refl in
    ap (λ (z : Slot). get_or z.held g false) q ∙ e

pub lost_sound : (s : Sheet) (v g : ℕ) → IsSound s → FitsLost s.slots v g → IsSound (record { births = s.births; slots = map (grain_lost v g) s.slots })
lost_sound s v g i f =
    map_sound (grain_lost v g) (regrained (grain_lost v g) g (bit_lost v g)) s i
    (map_holders (grain_lost v g) g (bit_lost v g) s i (λ k h kl l gl r.
    elim (cases_Bool (slot_at s.slots h).is_live) [
      | inl live ↦ inl (lost_holds v g (slot_at s.slots h) r.holds (inl live))
      | inr old ↦ inl (lost_holds v g (slot_at s.slots h) r.holds (inr (f k h kl l (is_holder (column s.slots g) k h r) old)))
    ]))

pub torn_sound : (s : Sheet) (v g : ℕ) (side : Side) → IsSound s → FitsTaken s.slots v g → (side ≡ Under → FitsLost s.slots v g) → IsSound (sheet_torn v g side s)
torn_sound s v g Now i f u = written_sound s v g i f
torn_sound s v g Under i f u = lost_sound s v g i (u refl)
