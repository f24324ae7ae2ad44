-- Slots found by their births, and the place to which the name of a mapping's slot leads.
use Rattle.std.proofs.Common.{◌≡◌, ℕ, ◌<◌, Option, Some, None, IfSome, List, length, refl, sym, ap, subst, ◌∙◌, arith}
use Rattle.std.proofs.lemmas.Bool.{eqb-true, eq-eqb, false_from_ne_true}
use Rattle.fc_base.specs.Column.{holder}
use Rattle.fc_base.specs.Sheet.{Slot, Sheet, slot_at, slot_id, column, live_place, birth_place}
use Rattle.fc_base.specs.SheetFacts.{HasNames, IsSound}
use Rattle.fc_base.specs.declared.ids.SlotId.{SlotId}
use Rattle.fc_chain.specs.Chains.{found}
use Rattle.fc_moves.proofs.Readers.{IsHolder, holder_is}
use Rattle.fc_sheets.proofs.Finding.{birth_place_at, live_place_at}
use Rattle.fc_moves.proofs.Search.{first_is}

pub birth_place_is : (s : Sheet) (k : ℕ) → HasNames s → k < length s.slots → birth_place s.slots (slot_at s.slots k).birth ≡ Some k
unfolding birth_place
birth_place_is s k n kl =
    first_is _ (length s.slots) k (record {
      below = kl;
      passes = eq-eqb _ _ refl;
      first = λ j jk. false_from_ne_true _ (λ t.
          let same : j ≡ k = n.apart j k (omega arith) kl (eqb-true _ _ t) in omega arith);
    })

pub some_is : {A : Type 0} {x y : A} → Some x ≡ Some y → x ≡ y
some_is {A} {x} {y} e = ap (or_this x) e
  where
    or_this : A → Option A → A
    or_this a None = a
    or_this a (Some b) = b

-- a slot by its name
pub named : (s : Sheet) (k : ℕ) (name : SlotId) (o : Option ℕ) → IsSound s → k < length s.slots → o ≡ Some k → Some name ≡ found s.slots o → birth_place s.slots name.0 ≡ Some k
named s k name o sound below e f =
    let same : name ≡ slot_id s.slots k = some_is (f ∙ ap (found s.slots) e) in
    ap (λ (z : SlotId). birth_place s.slots z.0) same ∙ birth_place_is s k sound.names below

-- the holder of a slot, found by its name
pub holder_named : (s : Sheet) (g b k h : ℕ) (name : SlotId) (o : Option SlotId) → IsSound s → birth_place s.slots b ≡ Some k → holder (column s.slots g) k ≡ Some h →
    o ≡ found s.slots (holder (column s.slots g) k) → o ≡ Some name → birth_place s.slots name.0 ≡ Some h
holder_named s g b k h name o sound e q f n =
    let kl = (birth_place_at s.slots b k e).0 in
    let is : IsHolder (column s.slots g) k h = holder_is (column s.slots g) k h q in
    let hk = is.before in
    named s h name (holder (column s.slots g) k) sound (omega arith) q (sym n ∙ f)

-- the live slot of a volume, by its name
pub live_named : (s : Sheet) (v k : ℕ) (name : SlotId) (o : Option SlotId) → IsSound s → live_place s.slots v ≡ Some k → o ≡ found s.slots (live_place s.slots v) → o ≡ Some name →
    birth_place s.slots name.0 ≡ Some k
live_named s v k name o sound e f n = named s k name (live_place s.slots v) sound (live_place_at s.slots v k e).there e (sym n ∙ f)

-- the place that a name leads to
pub record Leads (slots : List Slot) (place : Option ℕ) (slot : SlotId) : Type 0 where
  pub at : ℕ
  pub named : birth_place slots slot.0 ≡ Some at
  pub there : place ≡ Some at

pub leads : (slots : List Slot) (place : Option ℕ) (o : Option SlotId) (slot : SlotId) → o ≡ found slots place → IfSome o (λ s. birth_place slots s.0 ≡ place) → o ≡ Some slot → Leads slots place slot
leads slots None o slot is same some = absurd (none_some (sym is ∙ some))
  where
    none_some : None ≡ Some slot → ⊥
    none_some e = absurd cc
leads slots (Some k) o slot is same some =
    record { at = k; named = subst (λ (z : Option SlotId). IfSome z (λ s. birth_place slots s.0 ≡ Some k)) some same; there = refl }
