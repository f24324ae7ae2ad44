-- The name of a slot leads back to its place.
use Rattle.std.proofs.Common.{◌≡◌, ℕ, ◌<◌, Option, Some, None, IfSome, List, length, refl, sym, subst, arith}
use Rattle.std.proofs.lemmas.Bool.{eqb-true, eq-eqb, false_from_ne_true}
use Rattle.fc_base.specs.Sheet.{Slot, slot_at, birth_place}
use Rattle.fc_base.specs.declared.ids.SlotId.{SlotId}
use Rattle.fc_slots.specs.Found.{found}
use Rattle.fc_places.specs.Olds.{HasApartBirths}
use Rattle.fc_moves.proofs.Search.{first_is}

born : (slots : List Slot) (k : ℕ) → HasApartBirths slots → k < length slots → birth_place slots (slot_at slots k).birth ≡ Some k
unfolding birth_place
born slots k apart kl =
    first_is _ (length slots) k (record {
      below = kl;
      passes = eq-eqb _ _ refl;
      first = λ j jk. false_from_ne_true _ (λ t. let same : j ≡ k = apart j k (omega arith) kl (eqb-true _ _ t) in omega arith);
    })

pub names_place : (slots now : List Slot) (o p : Option ℕ) (name : Option SlotId) → now ≡ slots → p ≡ o → HasApartBirths now → IfSome p (λ k. k < length slots) → name ≡ found now p → IfSome name (λ slot. birth_place slots slot.0 ≡ o)
names_place slots now o p name same is apart within e =
    let P : Option ℕ → Type 0 = λ z. IfSome z (λ k. k < length slots) in
    subst (λ (z : Option SlotId). IfSome z (λ slot. birth_place slots slot.0 ≡ o)) (sym e)
    (subst (λ (ts : List Slot). IfSome (found ts p) (λ slot. birth_place slots slot.0 ≡ o)) (sym same)
    (subst (λ (q : Option ℕ). IfSome (found slots q) (λ slot. birth_place slots slot.0 ≡ o)) (sym is)
    (by o (subst P is within))))
  where
    apart_now : HasApartBirths slots
    apart_now = subst HasApartBirths same apart

    by : (q : Option ℕ) → IfSome q (λ k. k < length slots) → IfSome (found slots q) (λ slot. birth_place slots slot.0 ≡ q)
    by None t = tt
    by (Some k) kl = born slots k apart_now kl
