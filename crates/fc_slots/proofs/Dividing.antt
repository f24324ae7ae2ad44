-- A chain is divided slot by slot.
use Rattle.std.proofs.Common.{◌≡◌, ℕ, zero, suc, ◌+◌, ◌<◌, ◌≤◌, List, [], ◌∷◌, ◌++◌, map, take, drop, set, get_or, length, refl, sym, ap, ◌∙◌, arith, add-one}
use Rattle.fc_base.specs.Sheet.{Slot}
use Rattle.fc_base.specs.SheetStep.{relabelled}
use Rattle.fc_sheets.proofs.Splitting.{cut_off}
use Rattle.fc_slots.proofs.Mapping.{mapped_more}

-- the first is cut off
cut_here : (f : Slot → Slot) (slots : List Slot) (k : ℕ) (t : Slot) → k < length slots → t ≡ get_or slots k t → set slots k (cut_off t) ≡ relabelled f k (take (suc k) slots) ++ drop (suc k) slots
cut_here f [] k t lt e = absurd (omega arith)
cut_here f (x ∷ xs) zero t lt e = ap (λ z. cut_off z ∷ xs) e
cut_here f (x ∷ xs) (suc k) t lt e = ap (λ z. x ∷ z) (cut_here f xs k t (omega arith) e)

pub cut_first : (f : Slot → Slot) (slots now : List Slot) (k : ℕ) (t u : Slot) → k < length slots → t ≡ get_or slots k t → u ≡ cut_off (get_or slots k t) → now ≡ set slots k u → now ≡ relabelled f k (take (k + 1) slots) ++ drop (k + 1) slots
cut_first f slots now k t u lt e q n =
    n ∙ (ap (set slots k) (q ∙ ap cut_off (sym e)) ∙ (cut_here f slots k t lt e ∙ ap (λ z. relabelled f k (take z slots) ++ drop z slots) (sym (add-one k))))

next_along : (f : Slot → Slot) (slots : List Slot) (k i : ℕ) (t : Slot) → k < i → i < length slots → t ≡ get_or (relabelled f k (take i slots) ++ drop i slots) i t →
    set (relabelled f k (take i slots) ++ drop i slots) i (f t) ≡ relabelled f k (take (i + 1) slots) ++ drop (i + 1) slots
next_along f [] k i t b lt e = absurd (omega arith)
next_along f (x ∷ xs) k zero t b lt e = absurd (omega arith)
next_along f (x ∷ xs) zero (suc i) t b lt e =
    ap (λ z. cut_off x ∷ z) (mapped_more f xs (map f (take i xs) ++ drop i xs) i t (f t) refl (omega arith) e refl)
    ∙ ap (λ z. relabelled f zero (take z (x ∷ xs)) ++ drop z (x ∷ xs)) (suc_more i)
  where
    suc_more : (i : ℕ) → suc (i + 1) ≡ suc i + 1
    suc_more i = omega arith
next_along f (x ∷ xs) (suc k) (suc i) t b lt e =
    ap (λ z. x ∷ z) (next_along f xs k i t (omega arith) (omega arith) e)
    ∙ ap (λ z. relabelled f (suc k) (take z (x ∷ xs)) ++ drop z (x ∷ xs)) (suc_more i)
  where
    suc_more : (i : ℕ) → suc (i + 1) ≡ suc i + 1
    suc_more i = omega arith

pub next_divided : (f : Slot → Slot) (slots now new : List Slot) (k i : ℕ) (t u : Slot) → now ≡ relabelled f k (take i slots) ++ drop i slots → k < i → i < length slots → t ≡ get_or now i t → u ≡ f (get_or now i t) → new ≡ set now i u →
    new ≡ relabelled f k (take (i + 1) slots) ++ drop (i + 1) slots
next_divided f slots now new k i t u e b lt r q n =
    n ∙ (ap (set now i) (q ∙ ap f (sym r)) ∙ (ap (λ z. set z i (f t)) e ∙ next_along f slots k i t b lt (r ∙ ap (λ z. get_or z i t) e)))

all_taken : (slots : List Slot) (i : ℕ) → length slots ≤ i → (take i slots ≡ slots) × (drop i slots ≡ [])
all_taken [] zero le = (refl, refl)
all_taken [] (suc i) le = (refl, refl)
all_taken (x ∷ xs) zero le = absurd (omega arith)
all_taken (x ∷ xs) (suc i) le = let r = all_taken xs i (omega arith) in (ap (λ z. x ∷ z) r.0, r.1)

append_none : (xs : List Slot) → xs ++ [] ≡ xs
append_none [] = refl
append_none (x ∷ xs) = ap (λ z. x ∷ z) (append_none xs)

pub all_divided : (f : Slot → Slot) (slots now : List Slot) (k i : ℕ) → now ≡ relabelled f k (take i slots) ++ drop i slots → length slots ≤ i → now ≡ relabelled f k slots
all_divided f slots now k i e le =
    let r = all_taken slots i le in
    e ∙ (ap (λ z. relabelled f k z ++ drop i slots) r.0 ∙ (ap (λ z. relabelled f k slots ++ z) r.1 ∙ append_none (relabelled f k slots)))
