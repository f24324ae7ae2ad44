-- An old slot that nobody needs stays so through a move, a write and a failed write that fit.
use Rattle.std.proofs.Common.{◌≡◌, ◌≢◌, ℕ, zero, suc, ◌<◌, ◌≤◌, Bool, true, false, not, ◌&&◌, cond, eqb, Some, List, [], ◌∷◌, length, get_or, set, map, refl, sym, ap, ◌∙◌, arith, ◌⊎◌, inl, inr, get_or-set_same}
use Rattle.std.proofs.lemmas.Bool.{cases_Bool, both_ways, cases_eq, eqb-true, eq-eqb, ne_eqb, and_parts, not_from_true}
use Rattle.fc_base.specs.Column.{Column, needer}
use Rattle.fc_base.specs.Need.{IsNeeded}
use Rattle.fc_base.specs.Sheet.{Slot, slot_at, column}
use Rattle.fc_base.specs.SheetFacts.{HasSizes}
use Rattle.fc_base.specs.SheetFits.{FitsTaken, FitsLost}
use Rattle.fc_base.specs.SheetStep.{grain_taken, grain_kept, grain_lost}
use Rattle.fc_moves.proofs.Readers.{IsHolder, is_holder, holder_from, reader_is}
use Rattle.fc_pictures.proofs.Leaving.{unneeded_free}
use Rattle.fc_sheets.proofs.Columns.{column_elsewhere}
use Rattle.fc_sheets.proofs.Holding.{length_map, at_map, IsBit, regrained, held_in_range}

-- ---- a change of pairs

abbrev pub Holds : Slot → ℕ → Type 0
Holds t g = get_or t.held g false ≡ true

-- old slots gain nothing
abbrev pub OldLoses : (Slot → Slot) → Type 0
OldLoses f = (t : Slot) (x : ℕ) → t.is_live ≡ false → Holds (f t) x → Holds t x

-- of a live slot the holder keeps its pair, or it gets one itself
abbrev pub Keeps : (Slot → Slot) → ℕ → List Slot → Type 0
Keeps f g slots =
    (k h : ℕ) → k < length slots → (slot_at slots k).is_live ≡ true → g < length (slot_at slots k).held → IsHolder (column slots g) k h →
    Holds (f (slot_at slots h)) g ⊎ Holds (f (slot_at slots k)) g

-- who reads at an old slot after the change did so before
read_before : (f : Slot → Slot) (g : ℕ) → IsBit f g → OldLoses f → (slots : List Slot) → HasSizes slots → Keeps f g slots →
    (p a : ℕ) → (slot_at slots p).is_live ≡ false → a < length slots → (slot_at slots a).is_live ≡ true → a ≢ p →
    IsHolder (column (map f slots) g) a p → IsHolder (column slots g) a p
read_before f g bit loses slots sizes keeps p a old al alive other reads =
    let r = regrained f g bit in
    let new : List Slot = map f slots in
    let chain : (j : ℕ) → (slot_at new j).chain ≡ (slot_at slots j).chain = λ (j : ℕ). ap (λ (t : Slot). t.chain) (at_map f slots j r.none) ∙ r.chain (slot_at slots j) in
    let holds : (j : ℕ) → Holds (f (slot_at slots j)) g → Holds (slot_at new j) g = λ (j : ℕ) (h : Holds (f (slot_at slots j)) g). ap (λ (t : Slot). get_or t.held g false) (at_map f slots j r.none) ∙ h in
    let before : p ≤ a = reads.before in
    record {
      before = reads.before;
      one_chain = sym (chain p) ∙ (reads.one_chain ∙ chain a);
      holds = loses (slot_at slots p) g old (ap (λ (t : Slot). get_or t.held g false) (sym (at_map f slots p r.none)) ∙ reads.holds);
      nearest = λ j pj ja q t.
          let y = holder_from (column slots g) a j ja q t in
          let h : ℕ = y.0 in
          let i : IsHolder (column slots g) a h = y.2 in
          let ha : h ≤ a = i.before in
          let jh : j ≤ h = y.1 in
          let hl : h < length slots = omega arith in
          let size : length (slot_at slots h).held ≡ length (slot_at slots a).held = sizes.of_chain h a hl al i.one_chain in
          let low : g < length (slot_at slots h).held = held_in_range (slot_at slots h).held g i.holds in
          elim (keeps a h al alive (omega arith) i) [
            | inl x ↦ reads.nearest h (omega arith) ha (chain h ∙ (i.one_chain ∙ sym (chain a))) (holds h x)
            | inr x ↦ reads.nearest a (omega arith) (omega arith) refl (holds a x)
          ];
    }

pub still_unneeded : (f : Slot → Slot) (g : ℕ) → IsBit f g → OldLoses f → (slots : List Slot) → HasSizes slots → Keeps f g slots →
    (p : ℕ) → (slot_at slots p).is_live ≡ false → (IsNeeded slots p → ⊥) → IsNeeded (map f slots) p → ⊥
still_unneeded f g bit loses slots sizes keeps p old free (x, a, e) =
    elim (cases_eq x g) [
      | inr ne ↦ free (x, a, ap (λ (c : Column). needer c p) (sym (column_elsewhere f g x bit ne slots)) ∙ e)
      | inl q ↦
          let e' : needer (column (map f slots) g) p ≡ Some a = ap (λ (z : ℕ). needer (column (map f slots) z) p) (sym q) ∙ e in
          let r = reader_is (column (map f slots) g) p p a e' in
          let count : length (map f slots) ≡ length slots = length_map f slots in
          let there : a < length (map f slots) = r.there in
          let al : a < length slots = omega arith in
          let b = regrained f g bit in
          let alive : (slot_at slots a).is_live ≡ true = sym (b.is_live (slot_at slots a)) ∙ (ap (λ (t : Slot). t.is_live) (sym (at_map f slots a b.none)) ∙ r.is_live) in
          unneeded_free slots p free g a al alive r.other (read_before f g bit loses slots sizes keeps p a old al alive r.other r.reads)
    ]

-- ---- the three changes

abbrev with_held : Slot → List Bool → Slot
with_held t held = record t { held = held }

taken_on : (v g : ℕ) (t : Slot) → t.volume ≡ v → grain_taken v g t ≡ with_held t (set t.held g t.is_live)
taken_on v g t e = ap (λ (z : Bool). cond z (with_held t (set t.held g t.is_live)) t) (eq-eqb t.volume v e)

taken_off : (v g : ℕ) (t : Slot) → t.volume ≢ v → grain_taken v g t ≡ t
taken_off v g t ne = ap (λ (z : Bool). cond z (with_held t (set t.held g t.is_live)) t) (ne_eqb t.volume v ne)

kept_is : (v g : ℕ) (t : Slot) (z : Bool) → (t.is_live && eqb t.volume v) ≡ z → grain_kept v g t ≡ cond z (with_held t (set t.held g true)) t
kept_is v g t z e = ap (λ (x : Bool). cond x (with_held t (set t.held g true)) t) e

lost_is : (v g : ℕ) (t : Slot) (z : Bool) → (not t.is_live && eqb t.volume v) ≡ z → grain_lost v g t ≡ cond z (with_held t (set t.held g false)) t
lost_is v g t z e = ap (λ (x : Bool). cond x (with_held t (set t.held g false)) t) e

by_held : (s t : Slot) (x : ℕ) → s ≡ t → Holds t x → Holds s x
by_held s t x e h = ap (λ (z : Slot). get_or z.held x false) e ∙ h

pub cleared_held : (held : List Bool) (g x : ℕ) → get_or (set held g false) x false ≡ true → get_or held x false ≡ true
cleared_held [] g x e = e
cleared_held (b ∷ bs) zero zero e = absurd cc
cleared_held (b ∷ bs) zero (suc x) e = e
cleared_held (b ∷ bs) (suc g) zero e = e
cleared_held (b ∷ bs) (suc g) (suc x) e = cleared_held bs g x e

pub taken_loses : (v g : ℕ) → OldLoses (grain_taken v g)
taken_loses v g t x old h =
    elim (cases_eq t.volume v) [
      | inr ne ↦ by_held t (grain_taken v g t) x (sym (taken_off v g t ne)) h
      | inl e ↦ cleared_held t.held g x (ap (λ (z : Bool). get_or (set t.held g z) x false) (sym old) ∙ by_held (with_held t (set t.held g t.is_live)) (grain_taken v g t) x (sym (taken_on v g t e)) h)
    ]

pub kept_loses : (v g : ℕ) → OldLoses (grain_kept v g)
kept_loses v g t x old h = by_held t (grain_kept v g t) x (sym (kept_is v g t false (ap (λ (z : Bool). z && eqb t.volume v) old))) h

pub lost_loses : (v g : ℕ) → OldLoses (grain_lost v g)
lost_loses v g t x old h =
    elim (cases_Bool (not t.is_live && eqb t.volume v)) [
      | inl e ↦ cleared_held t.held g x (by_held (with_held t (set t.held g false)) (grain_lost v g t) x (sym (lost_is v g t true e)) h)
      | inr e ↦ by_held t (grain_lost v g t) x (sym (lost_is v g t false e)) h
    ]

set_here : (t : Slot) (g : ℕ) (b : Bool) → b ≡ true → g < length t.held → Holds (with_held t (set t.held g b)) g
set_here t g b e lt = get_or-set_same t.held g b false lt ∙ e

pub keeps_taken : (slots : List Slot) (v g : ℕ) → FitsTaken slots v g → Keeps (grain_taken v g) g slots
keeps_taken slots v g fits k h kl l gl i =
    let a : Slot = slot_at slots h in
    let low : g < length a.held = held_in_range a.held g i.holds in
    elim (cases_eq a.volume v) [
      | inr ne ↦ inl (by_held (grain_taken v g a) a g (taken_off v g a ne) i.holds)
      | inl e ↦ elim (cases_Bool a.is_live) [
        | inl live ↦ inl (by_held (grain_taken v g a) (with_held a (set a.held g a.is_live)) g (taken_on v g a e) (set_here a g a.is_live live low))
        | inr old ↦
            let b : Slot = slot_at slots k in
            let own : b.volume ≡ v = fits k h kl l (is_holder (column slots g) k h i) old e in
            inr (by_held (grain_taken v g b) (with_held b (set b.held g b.is_live)) g (taken_on v g b own) (set_here b g b.is_live l gl))
      ]
    ]

pub keeps_kept : (slots : List Slot) (v g : ℕ) → Keeps (grain_kept v g) g slots
keeps_kept slots v g k h kl l gl i =
    let a : Slot = slot_at slots h in
    elim (cases_Bool (a.is_live && eqb a.volume v)) [
      | inl e ↦ inl (by_held (grain_kept v g a) (with_held a (set a.held g true)) g (kept_is v g a true e) (set_here a g true refl (held_in_range a.held g i.holds)))
      | inr e ↦ inl (by_held (grain_kept v g a) a g (kept_is v g a false e) i.holds)
    ]

pub keeps_lost : (slots : List Slot) (v g : ℕ) → FitsLost slots v g → Keeps (grain_lost v g) g slots
keeps_lost slots v g fits k h kl l gl i =
    let a : Slot = slot_at slots h in
    elim (cases_Bool (not a.is_live && eqb a.volume v)) [
      | inr e ↦ inl (by_held (grain_lost v g a) a g (lost_is v g a false e) i.holds)
      | inl e ↦
          let p = and_parts (not a.is_live) (eqb a.volume v) e in
          elim (cases_Bool a.is_live) [
            | inl live ↦ absurd (both_ways (not a.is_live) (not_from_true a.is_live live) p.0)
            | inr old ↦ absurd (fits k h kl l (is_holder (column slots g) k h i) old (eqb-true a.volume v p.1))
          ]
    ]
