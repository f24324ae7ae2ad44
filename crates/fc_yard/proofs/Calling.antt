-- For callers: what a pass holds after each call.
use Rattle.std.proofs.Common.{◌≡◌, ◌≢◌, ℕ, ◌∙◌, subst, sym, Some, None}
use mathlib.Core.Logic.{dite}
use native.Mathlib.Decide.{ℕ_discrete}
use Rattle.fc_yard.specs.declared.rule.View.{View}
use Rattle.fc_yard.specs.Views.{held_of, HoldsNone, HoldsOnly, took, put_back, drew}
use Rattle.fc_yard.proofs.Totals.{write_here, write_else}

module _ {P E : Type 0} where
  pub only_took : (v : View P E) (p : ℕ) (x : P) → HoldsNone v → HoldsOnly (took v p x) p x
  only_took v p x free = (write_here None v.held p (Some x), λ q n. write_else None v.held p q (Some x) n ∙ free q)

  pub only_drew : (v : View P E) (p : ℕ) (old x : P) (n : ℕ) (e : E) → HoldsOnly v p old → HoldsOnly (drew v p x n e) p x
  only_drew v p old x n e only = (write_here None v.held p (Some x), λ q ne. write_else None v.held p q (Some x) ne ∙ only.1 q ne)

  pub none_left : (v : View P E) (p : ℕ) (x : P) → HoldsOnly v p x → HoldsNone (put_back v p)
  none_left v p x only q = dite (ℕ_discrete q p) (λ (e : q ≡ p). subst (λ (r : ℕ). held_of (put_back v p) r ≡ None) (sym e) (write_here None v.held p None))
      (λ (n : q ≢ p). write_else None v.held p q None n ∙ only.1 q n)
