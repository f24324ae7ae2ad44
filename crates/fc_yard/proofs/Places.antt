-- Numbers, and entries at their numbers' places.
use Rattle.std.proofs.Common.{◌≡◌, ℕ, zero, suc, ◌+◌, ◌<◌, eqb, List, [], ◌∷◌, ◌++◌, length, sym, refl, subst, arith, add-one}
use mathlib.Core.Option.{some, some-ne-none}
use lib.ListN.{get_elem?}
use Rattle.atomic_table.proofs.Lists.{at_longer, at_last}
use Rattle.fc_yard.specs.Lists.{bit, times, once_below, AllStand, AllBelow}
use Rattle.fc_yard.specs.Whole.{Runs}

pub once_more : (x n : ℕ) → once_below x (n + 1) ≡ once_below x n + bit (eqb x n)
once_more x n = rw add-one (omega arith)

module _ {E : Type 0} where
  pub times_append : (x : ℕ) (a b : List (ℕ × E)) → times x (a ++ b) ≡ times x a + times x b
  times_append x [] b = omega arith
  times_append x (m ∷ ms) b = let rest = times_append x ms b in omega arith

  pub within : (es : List E) (i : ℕ) (e : E) → get_elem? es i ≡ some e → i < length es
  within [] i e at = absurd (some-ne-none e (sym at))
  within (x ∷ xs) zero e at = omega arith
  within (x ∷ xs) (suc i) e at = let rest = within xs i e at in omega arith

  pub stand_below : (first : ℕ) (es : List E) (ms : List (ℕ × E)) → AllStand first es ms → AllBelow (first + length es) ms
  stand_below first es [] h = tt
  stand_below first es (m ∷ ms) h = (let near = within es h.0.0 m.1 h.0.2 in let is = h.0.1 in omega arith, stand_below first es ms h.1)

  pub stand_longer : (first : ℕ) (es more : List E) (ms : List (ℕ × E)) → AllStand first es ms → AllStand first (es ++ more) ms
  stand_longer first es more [] h = tt
  stand_longer first es more (m ∷ ms) h = ((h.0.0, h.0.1, at_longer es more h.0.0 m.1 h.0.2), stand_longer first es more ms h.1)

  pub stand_append : (first : ℕ) (es : List E) (a b : List (ℕ × E)) → AllStand first es a → AllStand first es b → AllStand first es (a ++ b)
  stand_append first es [] b h k = k
  stand_append first es (m ∷ ms) b h k = (h.0, stand_append first es ms b h.1 k)

  -- one more entry, with the number after the last
  pub stand_more : (first : ℕ) (es : List E) (ms : List (ℕ × E)) (n : ℕ) (e : E) → n ≡ first + length es → AllStand first es ms → AllStand first (es ++ e ∷ []) (ms ++ (n, e) ∷ [])
  stand_more first es ms n e is h = stand_append first (es ++ e ∷ []) ms ((n, e) ∷ []) (stand_longer first es (e ∷ []) ms h) ((length es, is, at_last es e (length es) refl), tt)

module _ {W E P : Type 0} (fits : P → W → ℕ → P → Type 0) (sound : W → W → Type 0) (count : W → ℕ) (steps : W → ℕ → E → W → Type 0) where
  pub runs_more : (w : W) (n : ℕ) (es : List E) (last next : W) (e : E) → Runs fits sound count steps w n es last → steps last (n + length es) e next → Runs fits sound count steps w n (es ++ e ∷ []) next
  runs_more w n [] last next e h s = let at : n + 0 ≡ n = omega arith in (next, subst (λ (z : W × ℕ). steps z.0 z.1 e next) (λ i. (h i, at i)) s, refl)
  runs_more w n (x ∷ xs) last next e h s =
      let at : n + length (x ∷ xs) ≡ suc n + length xs = omega arith in
      (h.0, h.1, runs_more h.0 (suc n) xs last next e h.2 (subst (λ (k : ℕ). steps last k e next) at s))
