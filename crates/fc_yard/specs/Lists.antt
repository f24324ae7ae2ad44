-- Lists that are written at a place, totals over a list, and which numbers were drawn.
use Rattle.std.specs.Prelude.{◌≡◌, ℕ, zero, suc, ◌+◌, ◌<◌, ◌==◌, Bool, cond, List, [], ◌∷◌}
use mathlib.Core.Option.{some}
use lib.ListN.{get_elem?}

-- the list with a at the place p, made longer by d where it has no such place
abbrev pub write : {A : Type 0} → A → List A → ℕ → A → List A
write d [] zero a = a ∷ []
write d [] (suc p) a = d ∷ write d [] p a
write d (x ∷ xs) zero a = a ∷ xs
write d (x ∷ xs) (suc p) a = x ∷ write d xs p a

abbrev pub bit : Bool → ℕ
bit b = cond b 1 0

-- the f of each, added up
abbrev pub total : {V : Type 0} → (V → ℕ) → List V → ℕ
total f [] = 0
total f (v ∷ vs) = f v + total f vs

-- how often x is the number of an entry
abbrev pub times : {E : Type 0} → ℕ → List (ℕ × E) → ℕ
times x [] = 0
times x (m ∷ ms) = bit (x == m.0) + times x ms

-- 1 where x is below n, else 0
abbrev pub once_below : ℕ → ℕ → ℕ
once_below x zero = 0
once_below x (suc n) = bit (x == n) + once_below x n

-- each entry stands among all entries, at its number's place
abbrev pub AllStand : {E : Type 0} → ℕ → List E → List (ℕ × E) → Type 0
AllStand first es [] = Unit {0}
AllStand first es (m ∷ ms) = ((i : ℕ) × (m.0 ≡ first + i) × (get_elem? es i ≡ some m.1)) × AllStand first es ms

-- each number is below n
abbrev pub AllBelow : {E : Type 0} → ℕ → List (ℕ × E) → Type 0
AllBelow n [] = Unit {0}
AllBelow n (m ∷ ms) = (m.0 < n) × AllBelow n ms
