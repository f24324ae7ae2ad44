-- What a pass is after the calls by which a request of one part is done.
use Rattle.std.proofs.Common.{◌≡◌, ℕ, ◌+◌, ◌-◌, ◌<◌, ◌≤◌, List, [], ◌∷◌, ◌++◌, length, sym, ap, ◌∙◌, subst, refl, arith, Option, Some, None}
use Rattle.fc_yard.specs.declared.rule.View.{View}
use Rattle.fc_yard.specs.Calls.{YardView, PassView, IsPassOf, became}
use Rattle.fc_yard.specs.Lists.{AllBelow}
use Rattle.fc_yard.specs.Views.{held_of, HoldsNone, HoldsOnly, took, put_back, ticketed, looked, drew}
use Rattle.fc_yard.proofs.Calling.{only_took, only_drew, none_left}
use Rattle.fc_tasks.specs.Acting.{AllAbove, AreRising, IsFree, IsSamePass}

-- ---- numbers that rise

above_more : {E : Type 0} (b n : ℕ) (e : E) (ms : List (ℕ × E)) → b < n → AllAbove b ms → AllAbove b (ms ++ (n, e) ∷ [])
above_more b n e [] l a = (l, tt)
above_more b n e (m ∷ ms) l a = (a.0, above_more b n e ms l a.1)

pub rising_more : {E : Type 0} (n : ℕ) (e : E) (ms : List (ℕ × E)) → AllBelow n ms → AreRising ms → AreRising (ms ++ (n, e) ∷ [])
rising_more n e [] below rises = (tt, tt)
rising_more n e (m ∷ ms) below rises = (above_more m.0 n e ms below.0 rises.0, rising_more n e ms below.1 rises.1)

module _ {P E : Type 0} where
  -- ---- one call after the other

  pub two : (f g : View P E → View P E) (q0 q1 q2 : PassView P E) → q1 ≡ became q0 (f q0.view) → q2 ≡ became q1 (g q1.view) → q2 ≡ became q0 (g (f q0.view))
  two f g q0 q1 q2 a b = b ∙ ap (λ (q : PassView P E). became q (g q.view)) a

  pub held_then : (q0 q : PassView P E) (v : View P E) (p : ℕ) (x : P) → q ≡ became q0 v → held_of v p ≡ Some x → held_of q.view p ≡ Some x
  held_then q0 q v p x e h = ap (λ (r : PassView P E). held_of r.view p) e ∙ h

  -- ---- a part was taken and put back

  -- as it was; after all tickets were found given; and after a ticket and a draw
  pub free_put : (y : YardView) (q0 q : PassView P E) (p : ℕ) (x : P) → IsFree y q0 → q ≡ became q0 (put_back (took q0.view p x) p) → IsFree y q
  free_put y q0 q p x free e = subst (IsFree y) (sym e) record {
    yard = free.yard;
    parts = free.parts;
    none = none_left (took q0.view p x) p x (only_took q0.view p x free.none);
    used = free.used;
  }

  pub free_refused : (y : YardView) (q0 q : PassView P E) (p l : ℕ) (x : P) → IsFree y q0 → q ≡ became q0 (put_back (looked (took q0.view p x) l) p) → IsFree y q
  free_refused y q0 q p l x free e = subst (IsFree y) (sym e) record {
    yard = free.yard;
    parts = free.parts;
    none = none_left (looked (took q0.view p x) l) p x (only_took q0.view p x free.none);
    used = free.used;
  }

  pub free_drawn : (y : YardView) (q0 q : PassView P E) (p l n : ℕ) (x new : P) (e : E) → IsFree y q0 → q ≡ became q0 (put_back (drew (ticketed (took q0.view p x) l) p new n e) p) → IsFree y q
  free_drawn y q0 q p l n x new e free is = subst (IsFree y) (sym is) record {
    yard = free.yard;
    parts = free.parts;
    none = none_left (drew (ticketed (took q0.view p x) l) p new n e) p new (only_drew (ticketed (took q0.view p x) l) p x new n e (only_took q0.view p x free.none));
    used = let used = free.used in omega arith;
  }

  -- what stays
  pub same_pass : (q0 q : PassView P E) (v : View P E) → q ≡ became q0 v → IsSamePass q0.view v → IsSamePass q0.view q.view
  same_pass q0 q v e same = subst (λ (r : PassView P E). IsSamePass q0.view r.view) (sym e) same

  pub of_pass : (K : View P E → Type 0) (q0 q : PassView P E) (v : View P E) → q ≡ became q0 v → K v → K q.view
  of_pass K q0 q v e k = subst (λ (r : PassView P E). K r.view) (sym e) k
