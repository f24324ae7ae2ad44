-- A change of each slot in turn.
use Rattle.std.proofs.Common.{◌≡◌, ℕ, zero, suc, ◌+◌, ◌<◌, List, [], ◌∷◌, ◌++◌, map, take, drop, set, get_or, length, sym, ap, ◌∙◌, arith, add-one}
use Rattle.fc_base.specs.Sheet.{Slot}

map_step : (f : Slot → Slot) (slots : List Slot) (i : ℕ) (t : Slot) → i < length slots → t ≡ get_or (map f (take i slots) ++ drop i slots) i t →
    set (map f (take i slots) ++ drop i slots) i (f t) ≡ map f (take (suc i) slots) ++ drop (suc i) slots
map_step f [] i t lt e = absurd (omega arith)
map_step f (x ∷ xs) zero t lt e = ap (λ z. f z ∷ xs) e
map_step f (x ∷ xs) (suc i) t lt e = ap (λ z. f x ∷ z) (map_step f xs i t (omega arith) e)

pub mapped_more : (f : Slot → Slot) (slots now : List Slot) (i : ℕ) (t u : Slot) → now ≡ map f (take i slots) ++ drop i slots → i < length slots → t ≡ get_or now i t → u ≡ f t →
    set now i u ≡ map f (take (i + 1) slots) ++ drop (i + 1) slots
mapped_more f slots now i t u e lt r q =
    ap (λ z. set z i u) e ∙ (ap (set (map f (take i slots) ++ drop i slots) i) q ∙
    (map_step f slots i t lt (r ∙ ap (λ z. get_or z i t) e) ∙ ap (λ n. map f (take n slots) ++ drop n slots) (sym (add-one i))))
