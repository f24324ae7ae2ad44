-- Where the live slot of a volume, the slot of a mapping or of a birth stands.
use Rattle.std.proofs.Common.{◌≡◌, ◌≢◌, ℕ, ◌<◌, true, Option, Some, None, List, length, refl, sym, ap, ◌∙◌, arith}
use Rattle.std.proofs.lemmas.Bool.{both_ways, and_parts, and_from, eqb-true, eq-eqb, false_from_ne_true}
use Rattle.fc_base.specs.Column.{is_at}
use Rattle.fc_base.specs.Sheet.{Slot, slot_at, shape_of, live_place, mapping_place, birth_place}
use Rattle.fc_base.specs.SheetFacts.{HasMappings}
use Rattle.fc_base.specs.RestoreGraph.{HasOneLive}
use Rattle.fc_moves.proofs.Search.{first_some, first_none, first_is, first_is_none}

pub at_true : (o : Option ℕ) (m : ℕ) → is_at o m ≡ true → o ≡ Some m
at_true None m e = absurd cc
at_true (Some k) m e = ap Some (eqb-true k m e)

pub at_from : (o : Option ℕ) (m : ℕ) → o ≡ Some m → is_at o m ≡ true
at_from o m e = rw e (eq-eqb m m refl)

pub record LiveAt (slots : List Slot) (v k : ℕ) : Type 0 where
  pub there : k < length slots
  pub is_live : (slot_at slots k).is_live ≡ true
  pub of_volume : (slot_at slots k).volume ≡ v

pub live_place_at : (slots : List Slot) (v k : ℕ) → live_place slots v ≡ Some k → LiveAt slots v k
unfolding live_place
live_place_at slots v k e =
    let f = first_some _ (length slots) k e in
    let p = and_parts (slot_at slots k).is_live _ f.passes in
    record { there = f.below; is_live = p.0; of_volume = eqb-true _ _ p.1 }

pub live_place_is : (slots : List Slot) (v k : ℕ) → HasOneLive (shape_of slots) → LiveAt slots v k → live_place slots v ≡ Some k
unfolding live_place
live_place_is slots v k one l =
    first_is _ (length slots) k (record {
      below = l.there;
      passes = and_from _ _ l.is_live (eq-eqb _ _ l.of_volume);
      first = λ j jk. false_from_ne_true _ (λ t.
          let kl : k < length slots = l.there in
          let p = and_parts (slot_at slots j).is_live _ t in
          let same : j ≡ k = one j k (omega arith) kl p.0 l.is_live (eqb-true _ _ p.1 ∙ sym l.of_volume) in omega arith);
    })

pub no_live_place : (slots : List Slot) (v : ℕ) → live_place slots v ≡ None → (k : ℕ) → k < length slots → (slot_at slots k).is_live ≡ true → (slot_at slots k).volume ≢ v
unfolding live_place
no_live_place slots v e k kl l q = both_ways _ (first_none _ (length slots) e k kl) (and_from _ _ l (eq-eqb _ _ q))

pub mapping_place_at : (slots : List Slot) (m k : ℕ) → mapping_place slots m ≡ Some k → (k < length slots) × ((slot_at slots k).mapping ≡ Some m)
unfolding mapping_place
mapping_place_at slots m k e = let f = first_some _ (length slots) k e in (f.below, at_true (slot_at slots k).mapping m f.passes)

pub mapping_place_is : (slots : List Slot) (m k : ℕ) → HasMappings slots → k < length slots → (slot_at slots k).mapping ≡ Some m → mapping_place slots m ≡ Some k
unfolding mapping_place
mapping_place_is slots m k n kl e =
    first_is _ (length slots) k (record {
      below = kl;
      passes = at_from (slot_at slots k).mapping m e;
      first = λ j jk. false_from_ne_true _ (λ t. let same : j ≡ k = n.one_slot j k m (omega arith) kl (at_true (slot_at slots j).mapping m t) e in omega arith);
    })

pub mapping_place_none : (slots : List Slot) (m : ℕ) → mapping_place slots m ≡ None → (k : ℕ) → k < length slots → (slot_at slots k).mapping ≡ Some m → ⊥
unfolding mapping_place
mapping_place_none slots m e k kl q = both_ways _ (first_none _ (length slots) e k kl) (at_from (slot_at slots k).mapping m q)

pub no_mapping_place : (slots : List Slot) (m : ℕ) → ((k : ℕ) → k < length slots → (slot_at slots k).mapping ≡ Some m → ⊥) → mapping_place slots m ≡ None
unfolding mapping_place
no_mapping_place slots m f = first_is_none _ (length slots) (λ k kl. false_from_ne_true _ (λ t. f k kl (at_true (slot_at slots k).mapping m t)))

pub birth_place_at : (slots : List Slot) (b k : ℕ) → birth_place slots b ≡ Some k → (k < length slots) × ((slot_at slots k).birth ≡ b)
unfolding birth_place
birth_place_at slots b k e = let f = first_some _ (length slots) k e in (f.below, eqb-true _ _ f.passes)
