-- The chains at one grain.
use Rattle.std.proofs.Common.{◌≡◌, ℕ, zero, suc, ◌+◌, ◌-◌, ◌≤◌, min, Bool, true, false, cond, ◌&&◌, eqb, Option, Some, None, List, [], ◌∷◌, length, get_or, refl, sym, ap, ◌∙◌, arith, inl, inr}
use Rattle.std.proofs.lemmas.Bool.{cases_lt}
use Rattle.fc_base.specs.Column.{last_below, holder, is_old_of, put_by_birth, places_by_birth}
use Rattle.fc_base.specs.Moves.{is_in_place}
use Rattle.fc_base.specs.Sheet.{Slot, slot_at, no_slot, column, shape_of}
use Rattle.model_slots.proofs.Searching.{last_quiet}

-- past the end stands no slot
pub past_end : (slots : List Slot) (j : ℕ) → length slots ≤ j → slot_at slots j ≡ no_slot
past_end [] j le = refl
past_end (x ∷ xs) zero le = absurd (omega arith)
past_end (x ∷ xs) (suc j) le = past_end xs j (omega arith)

abbrev pub holds_in : List Slot → ℕ → ℕ → ℕ → Bool
holds_in slots g of j = eqb (slot_at slots j).chain (slot_at slots of).chain && get_or (slot_at slots j).held g false

and_false : (b : Bool) → (b && false) ≡ false
and_false true = refl
and_false false = refl

none_past : (slots : List Slot) (g of j : ℕ) → length slots ≤ j → holds_in slots g of j ≡ false
none_past slots g of j le =
    ap (λ (t : Slot). eqb (slot_at slots j).chain (slot_at slots of).chain && get_or t.held g false) (past_end slots j le) ∙ and_false _

pub holder_found : (slots : List Slot) (g of n : ℕ) (found : Option ℕ) → found ≡ last_below (holds_in slots g of) n → n ≤ min (of + 1) (length slots) → min (of + 1) (length slots) ≤ n →
    found ≡ holder (column slots g) of
unfolding holder
holder_found slots g of n found e a b =
    e ∙ elim (cases_lt of (length slots)) [
      | inl lt ↦ (let q : n ≡ of + 1 = omega arith in ap (last_below (holds_in slots g of)) q)
      | inr le ↦ (let q : of + 1 ≡ n + (of + 1 - n) = omega arith in
          sym (ap (last_below (holds_in slots g of)) q ∙ last_quiet (holds_in slots g of) n (of + 1 - n) (λ j nj. none_past slots g of j (omega arith))))
    ]

pub in_place_some : (slots : List Slot) (g place h v : ℕ) (b : Bool) → Some h ≡ holder (column slots g) place → v ≡ (slot_at slots place).volume → b ≡ is_old_of (shape_of slots) v h →
    b ≡ is_in_place (column slots g) place
unfolding is_in_place
in_place_some slots g place h v b e q r = rw (sym e) (r ∙ ap (λ z. is_old_of (shape_of slots) z h) q)

pub in_place_none : (slots : List Slot) (g place : ℕ) → None ≡ holder (column slots g) place → false ≡ is_in_place (column slots g) place
unfolding is_in_place
in_place_none slots g place e = rw (sym e) refl

pub places_start : (birth : ℕ → ℕ) (test : ℕ → Bool) (items : List ℕ) → items ≡ [] → items ≡ places_by_birth birth test 0
unfolding places_by_birth
places_start birth test items e = e

places_step : (birth : ℕ → ℕ) (test : ℕ → Bool) (n : ℕ) → places_by_birth birth test (suc n) ≡ cond (test n) (put_by_birth birth n (places_by_birth birth test n)) (places_by_birth birth test n)
unfolding places_by_birth
places_step birth test n = refl

pub places_more : (birth : ℕ → ℕ) (test : ℕ → Bool) (n : ℕ) (now new : List ℕ) → now ≡ places_by_birth birth test n → new ≡ cond (test n) (put_by_birth birth n now) now → new ≡ places_by_birth birth test (n + 1)
places_more birth test n now new e q =
    let s : n + 1 ≡ suc n = omega arith in
    q ∙ (ap (λ z. cond (test n) (put_by_birth birth n z) z) e ∙ (sym (places_step birth test n) ∙ ap (places_by_birth birth test) (sym s)))

pub places_done : (birth : ℕ → ℕ) (test : ℕ → Bool) (n m : ℕ) (now : List ℕ) → now ≡ places_by_birth birth test n → n ≤ m → m ≤ n → now ≡ places_by_birth birth test m
places_done birth test n m now e a b = let q : n ≡ m = omega arith in e ∙ ap (places_by_birth birth test) q
