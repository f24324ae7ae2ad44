-- The walk ends at the volume of the holder of the volume's live slot.
use Rattle.std.proofs.Common.{◌≡◌, ℕ, zero, suc, ◌+◌, ◌<◌, ◌≤◌, Bool, true, false, ◌&&◌, cond, Option, Some, None, List, [], ◌∷◌, length, ap, ◌∙◌, arith}
use Rattle.std.specs.Prelude.{◌==◌}
use Rattle.fc_base.specs.Column.{holder}
use Rattle.fc_base.specs.Sheet.{Slot, slot_at, column, live_place}
use Rattle.fc_bits.specs.Grains.{has}
use Rattle.fc_moves.proofs.Search.{first_some, last_some}
use Rattle.fc_recovered.specs.Walk.{is_live_slot, chain_with, seen_with, walked, walked_in, holder_volume}

-- the first live slot of the volume
record LiveFirst (v : ℕ) (slots : List Slot) (t : ℕ) : Type 0 where
  there : t < length slots
  is_live : is_live_slot v (slot_at slots t) ≡ true
  none : (j : ℕ) → j < t → is_live_slot v (slot_at slots j) ≡ false

rest_of : (v : ℕ) (s : Slot) (ss : List Slot) (t : ℕ) → LiveFirst v (s ∷ ss) (suc t) → LiveFirst v ss t
rest_of v s ss t f = record { there = omega (arith, f.there); is_live = f.is_live; none = λ j lt. f.none (suc j) (omega arith) }

in_chain : (v : ℕ) (slots : List Slot) (t : ℕ) → LiveFirst v slots t → chain_with v slots ≡ Some (slot_at slots t).chain
in_chain v [] t f = absurd (omega (arith, f.there))
in_chain v (s ∷ ss) zero f = ap (λ (z : Bool). cond z (Some s.chain) (chain_with v ss)) f.is_live
in_chain v (s ∷ ss) (suc t) f =
    ap (λ (z : Bool). cond z (Some s.chain) (chain_with v ss)) (f.none zero (omega arith)) ∙ in_chain v ss t (rest_of v s ss t f)

-- whether a slot is of the chain and holds the grain
abbrev holds_in : ℕ → ℕ → Slot → Bool
holds_in g label slot = (slot.chain == label) && has slot.held g

-- none does up to the live slot
none_more : (v g label : ℕ) (slots : List Slot) (t : ℕ) (seen : Option ℕ) → LiveFirst v slots t →
    ((j : ℕ) → j ≤ t → holds_in g label (slot_at slots j) ≡ false) → walked v g label slots seen ≡ seen
none_more v g label [] t seen f misses = absurd (omega (arith, f.there))
none_more v g label (s ∷ ss) zero seen f misses =
    ap (λ (z : Bool). cond z (seen_with g label s seen) (walked v g label ss (seen_with g label s seen))) f.is_live
    ∙ ap (λ (z : Bool). cond z (Some s.volume) seen) (misses zero (omega arith))
none_more v g label (s ∷ ss) (suc t) seen f misses =
    ap (λ (z : Bool). cond z (seen_with g label s seen) (walked v g label ss (seen_with g label s seen))) (f.none zero (omega arith))
    ∙ (ap (λ (z : Bool). walked v g label ss (cond z (Some s.volume) seen)) (misses zero (omega arith))
    ∙ none_more v g label ss t seen (rest_of v s ss t f) (λ j le. misses (suc j) (omega arith)))

-- the last one that does
record HoldsLast (g label : ℕ) (slots : List Slot) (t h : ℕ) : Type 0 where
  before : h ≤ t
  holds : holds_in g label (slot_at slots h) ≡ true
  last : (j : ℕ) → h < j → j ≤ t → holds_in g label (slot_at slots j) ≡ false

last_is : (v g label : ℕ) (slots : List Slot) (t h : ℕ) (seen : Option ℕ) → LiveFirst v slots t → HoldsLast g label slots t h →
    walked v g label slots seen ≡ Some (slot_at slots h).volume
last_is v g label [] t h seen f x = absurd (omega (arith, f.there))
last_is v g label (s ∷ ss) zero zero seen f x =
    ap (λ (z : Bool). cond z (seen_with g label s seen) (walked v g label ss (seen_with g label s seen))) f.is_live
    ∙ ap (λ (z : Bool). cond z (Some s.volume) seen) x.holds
last_is v g label (s ∷ ss) zero (suc h) seen f x = absurd (omega (arith, x.before))
last_is v g label (s ∷ ss) (suc t) zero seen f x =
    ap (λ (z : Bool). cond z (seen_with g label s seen) (walked v g label ss (seen_with g label s seen))) (f.none zero (omega arith))
    ∙ (ap (λ (z : Bool). walked v g label ss (cond z (Some s.volume) seen)) x.holds
    ∙ none_more v g label ss t (Some s.volume) (rest_of v s ss t f) (λ j le. x.last (suc j) (omega arith) (omega arith)))
last_is v g label (s ∷ ss) (suc t) (suc h) seen f x =
    ap (λ (z : Bool). cond z (seen_with g label s seen) (walked v g label ss (seen_with g label s seen))) (f.none zero (omega arith))
    ∙ last_is v g label ss t h (seen_with g label s seen) (rest_of v s ss t f)
    (record { before = omega (arith, x.before); holds = x.holds; last = λ j lt le. x.last (suc j) (omega arith) (omega arith) })

pub walk_ends : (v g : ℕ) (slots : List Slot) (t h : ℕ) → live_place slots v ≡ Some t → holder (column slots g) t ≡ Some h →
    holder_volume v g slots ≡ Some (slot_at slots h).volume
unfolding live_place holder
walk_ends v g slots t h e q =
    let f = first_some _ (length slots) t e in
    let l = last_some _ (t + 1) h q in
    let live : LiveFirst v slots t = record { there = f.below; is_live = f.passes; none = f.first } in
    ap (λ (o : Option ℕ). walked_in v g slots o) (in_chain v slots t live)
    ∙ last_is v g (slot_at slots t).chain slots t h None live
    (record { before = omega (arith, l.below); holds = l.passes; last = λ j lt le. l.last j lt (omega arith) })
