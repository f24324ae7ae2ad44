-- Lists that are written at a place, and totals over lists of which one element changes.
use Rattle.std.proofs.Common.{◌≡◌, ◌≢◌, ℕ, zero, suc, ◌+◌, ◌<◌, ◌≤◌, ⊎_elim, List, [], ◌∷◌, ◌++◌, map, get_or, set, sym, refl, ap, ◌∙◌, subst, arith}
use mathlib.Core.Option.{some, some-ne-none, some-injective}
use mathlib.Core.Logic.{dite}
use native.Mathlib.Decide.{ℕ_discrete}
use lib.ListN.{get_elem?}
use Rattle.std.proofs.lemmas.List.{map-set}
use Rattle.atomic_table.proofs.Lists.{at_set, set_again, at_map}
use Rattle.fc_yard.specs.Lists.{write, total}

module _ {A : Type 0} (d : A) where
  pub write_here : (xs : List A) (p : ℕ) (a : A) → get_or (write d xs p a) p d ≡ a
  write_here [] zero a = refl
  write_here [] (suc p) a = write_here [] p a
  write_here (x ∷ xs) zero a = refl
  write_here (x ∷ xs) (suc p) a = write_here xs p a

  pub write_else : (xs : List A) (p q : ℕ) (a : A) → q ≢ p → get_or (write d xs p a) q d ≡ get_or xs q d
  write_else [] zero zero a n = absurd (n refl)
  write_else [] zero (suc q) a n = refl
  write_else [] (suc p) zero a n = refl
  write_else [] (suc p) (suc q) a n = write_else [] p q a (λ e. n (ap suc e))
  write_else (x ∷ xs) zero zero a n = absurd (n refl)
  write_else (x ∷ xs) zero (suc q) a n = refl
  write_else (x ∷ xs) (suc p) zero a n = refl
  write_else (x ∷ xs) (suc p) (suc q) a n = write_else xs p q a (λ e. n (ap suc e))

module _ {V : Type 0} where
  pub total_set : (f : V → ℕ) (vs : List V) (i : ℕ) (v w : V) → get_elem? vs i ≡ some v → total f (set vs i w) + f v ≡ total f vs + f w
  total_set f [] i v w e = absurd (some-ne-none v (sym e))
  total_set f (x ∷ xs) zero v w e = let same = ap f (some-injective x v e) in omega arith
  total_set f (x ∷ xs) (suc i) v w e = let rest = total_set f xs i v w e in omega arith

  pub total_same : (f : V → ℕ) (vs : List V) (i : ℕ) (v w : V) → get_elem? vs i ≡ some v → f w ≡ f v → total f (set vs i w) ≡ total f vs
  total_same f vs i v w e same = let t = total_set f vs i v w e in omega arith

  pub total_more : (f : V → ℕ) (vs : List V) (w : V) → total f (vs ++ w ∷ []) ≡ total f vs + f w
  total_more f [] w = omega arith
  total_more f (x ∷ xs) w = let rest = total_more f xs w in omega arith

  pub total_at : (f : V → ℕ) (vs : List V) (i : ℕ) (v : V) → get_elem? vs i ≡ some v → f v ≤ total f vs
  total_at f [] i v e = absurd (some-ne-none v (sym e))
  total_at f (x ∷ xs) zero v e = let same = ap f (some-injective x v e) in omega arith
  total_at f (x ∷ xs) (suc i) v e = let rest = total_at f xs i v e in omega arith

  pub total_two : (f : V → ℕ) (vs : List V) (i j : ℕ) (v w : V) → get_elem? vs i ≡ some v → get_elem? vs j ≡ some w → j ≢ i → f v + f w ≤ total f vs
  total_two f [] i j v w e h n = absurd (some-ne-none v (sym e))
  total_two f (x ∷ xs) zero zero v w e h n = absurd (n refl)
  total_two f (x ∷ xs) zero (suc j) v w e h n = let same = ap f (some-injective x v e) in let rest = total_at f xs j w h in omega arith
  total_two f (x ∷ xs) (suc i) zero v w e h n = let same = ap f (some-injective x w h) in let rest = total_at f xs i v e in omega arith
  total_two f (x ∷ xs) (suc i) (suc j) v w e h n = let rest = total_two f xs i j v w e h (λ s. n (ap suc s)) in omega arith

  pub total_none : (f : V → ℕ) (vs : List V) → ((i : ℕ) (v : V) → get_elem? vs i ≡ some v → f v ≡ 0) → total f vs ≡ 0
  total_none f [] each = refl
  total_none f (x ∷ xs) each = let here = each 0 x refl in let rest = total_none f xs (λ i v e. each (suc i) v e) in omega arith

  -- one of them counts
  pub total_some : (f : V → ℕ) (vs : List V) → 0 < total f vs → (i : ℕ) × (v : V) × (get_elem? vs i ≡ some v) × (0 < f v)
  total_some f [] h = absurd (omega arith)
  total_some f (x ∷ xs) h = dite (ℕ_discrete (f x) 0) (λ (e : f x ≡ 0). let rest = total_some f xs (omega arith) in (suc rest.0, rest.1, rest.2, rest.3)) (λ (n : f x ≢ 0). (0, x, refl, omega arith))

  -- where the others count for nothing
  pub total_only : (f : V → ℕ) (vs : List V) (i : ℕ) (v : V) → get_elem? vs i ≡ some v → ((j : ℕ) (w : V) → j ≢ i → get_elem? vs j ≡ some w → f w ≡ 0) → total f vs ≡ f v
  total_only f [] i v e others = absurd (some-ne-none v (sym e))
  total_only f (x ∷ xs) zero v e others = let same = ap f (some-injective x v e) in let rest = total_none f xs (λ j w h. others (suc j) w (λ s. omega arith) h) in omega arith
  total_only f (x ∷ xs) (suc i) v e others =
      let here = others 0 x (λ s. omega arith) refl in let rest = total_only f xs i v e (λ j w n h. others (suc j) w (λ s. n (omega arith)) h) in omega arith

  -- what holds of the changed element and of all others holds of each
  pub each_set : (K : V → Type 0) (vs : List V) (i : ℕ) (w : V) → K w → ((j : ℕ) (v : V) → j ≢ i → get_elem? vs j ≡ some v → K v)
      → (j : ℕ) (v : V) → get_elem? (set vs i w) j ≡ some v → K v
  each_set K vs i w mine others j v e = ⊎_elim (λ (t : (j ≡ i) × (w ≡ v)). subst K t.1 mine) (λ (t : (j ≢ i) × (get_elem? vs j ≡ some v)). others j v t.0 t.1) (at_set vs i j w v e)

  pub same_map : {B : Type 0} (f : V → B) (vs : List V) (i : ℕ) (v w : V) → get_elem? vs i ≡ some v → f w ≡ f v → map f (set vs i w) ≡ map f vs
  same_map f vs i v w e same = map-set f vs i w ∙ ap (λ b. set (map f vs) i b) same ∙ set_again (map f vs) i (f v) (at_map f vs i v e)
