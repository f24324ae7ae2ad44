-- Names of slots, of which only the first were added.
use Rattle.std.proofs.Common.{◌≡◌, ℕ, zero, suc, ◌+◌, ◌≤◌, Bool, true, false, cond, List, [], ◌∷◌, ◌++◌, Result, Ok, Err, OnErr, refl, sym, ap, ◌∙◌, inl, inr, append-nil, append_assoc, arith}
use Rattle.std.proofs.lemmas.Bool.{cases_eq}
use Rattle.fc_base.specs.Counts.{names_below}
use Rattle.fc_base.specs.Sheet.{Slot, slot_id}
use Rattle.fc_base.specs.declared.ids.SlotId.{SlotId}
use Rattle.fc_tallies.specs.Fronts.{AddsFront}

none_left : (names : List SlotId) → names ≡ names ++ []
none_left names = sym (append-nil names)

names_rest : (slots : List Slot) (test : ℕ → Bool) (i n : ℕ) → i ≤ n → (rest : List SlotId) × (names_below slots test n ≡ names_below slots test i ++ rest)
names_rest slots test zero zero le = ([], refl)
names_rest slots test (suc i) zero le = absurd (omega arith)
names_rest slots test i (suc n) le =
    elim (cases_eq i (suc n)) [
      | inl same ↦ ([], ap (names_below slots test) (sym same) ∙ none_left (names_below slots test i))
      | inr less ↦ more (test n) (names_rest slots test i n (omega (arith, le, less)))
    ]
  where
    more : (passes : Bool) → ((rest : List SlotId) × (names_below slots test n ≡ names_below slots test i ++ rest)) →
        (rest : List SlotId) × (cond passes (names_below slots test n ++ slot_id slots n ∷ []) (names_below slots test n) ≡ names_below slots test i ++ rest)
    more true r = (r.0 ++ slot_id slots n ∷ [], ap (λ (names : List SlotId). names ++ slot_id slots n ∷ []) r.1 ∙ append_assoc (names_below slots test i) r.0 (slot_id slots n ∷ []))
    more false r = r

-- those up to a place are the first of all
pub first_added : (slots : List Slot) (test : ℕ → Bool) (i n : ℕ) (old new : List SlotId) → i ≤ n → new ≡ old ++ names_below slots test i → AddsFront old (names_below slots test n) new
first_added slots test i n old new le is =
    let r = names_rest slots test i n le in
    record { front = names_below slots test i; rest = r.0; all_are = r.1; added = is }

pub none_added : (old all : List SlotId) → AddsFront old all old
none_added old all = record { front = []; rest = all; all_are = refl; added = none_left old }

pub always_err : {A E P : Type 0} (r : Result A E) → P → OnErr r P
always_err (Ok a) holds = tt
always_err (Err e) holds = holds
