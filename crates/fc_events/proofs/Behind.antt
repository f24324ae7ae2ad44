-- Whether slots stand behind a place in its chain.
use Rattle.std.proofs.Common.{◌≡◌, ◌≢◌, ℕ, ◌<◌, ◌≤◌, Bool, true, false, ◌&&◌, eqb, ltb, Option, Some, None, is_some, List, length, get_or, refl, sym, ap, ◌∙◌, arith}
use Rattle.std.proofs.lemmas.Bool.{both_ways, and_parts, and_from, eqb-true, eq-eqb, ltb-true, lt-ltb, false_from_ne_true}
use Rattle.fc_base.specs.Column.{last_below}
use Rattle.fc_base.specs.Sheet.{Slot, slot_at}
use Rattle.fc_base.specs.SheetStep.{has_after}
use Rattle.fc_moves.proofs.Search.{last_none, last_is_none}
use Rattle.fc_slots.proofs.Finds.{read_at}

stands_behind : List Slot → ℕ → ℕ → Bool
stands_behind slots k j = ltb k j && eqb (slot_at slots j).chain (slot_at slots k).chain

none_or_true : (o : Option ℕ) → (o ≡ None → ⊥) → is_some o ≡ true
none_or_true None f = absurd (f refl)
none_or_true (Some k) f = refl

is_behind : (slots : List Slot) (k j : ℕ) → k < j → j < length slots → (slot_at slots j).chain ≡ (slot_at slots k).chain → has_after slots k ≡ true
unfolding stands_behind
is_behind slots k j b lt e =
    none_or_true (last_below (stands_behind slots k) (length slots))
    (λ n. both_ways (stands_behind slots k j) (last_none (stands_behind slots k) (length slots) n j lt) (and_from _ _ (lt-ltb k j b) (eq-eqb _ _ e)))

pub found_behind : (slots : List Slot) (k j chain : ℕ) (s t : Slot) → k < length slots → s ≡ get_or slots k s → k < j → j < length slots → t ≡ get_or slots j t → chain ≡ s.chain → t.chain ≡ chain → true ≡ has_after slots k
found_behind slots k j chain s t kl es b jl et ec e =
    let a = read_at slots k s kl es in
    let d = read_at slots j t jl et in
    sym (is_behind slots k j b jl (ap (λ (x : Slot). x.chain) d ∙ (e ∙ (ec ∙ ap (λ (x : Slot). x.chain) (sym a)))))

pub not_behind : (slots : List Slot) (k n : ℕ) → length slots ≤ n → ((j : ℕ) → k < j → j < n → (slot_at slots j).chain ≢ (slot_at slots k).chain) → false ≡ has_after slots k
unfolding stands_behind
not_behind slots k n le f =
    sym (ap is_some (last_is_none (stands_behind slots k) (length slots)
    (λ j lt. false_from_ne_true (stands_behind slots k j) (λ y. let p = and_parts (ltb k j) _ y in f j (ltb-true k j p.0) (omega arith) (eqb-true _ _ p.1)))))
