-- Loops that keep the first or the last place so far answer what the definitions say.
use Rattle.std.proofs.Common.{◌≡◌, ℕ, zero, suc, ◌+◌, ◌<◌, ◌≤◌, Bool, true, false, cond, Option, Some, None, IfSome, refl, sym, ap, subst, ◌∙◌, arith}
use Rattle.fc_base.specs.Column.{first_below, last_below}
use Rattle.model_slots.specs.Search.{first_with, last_with}

first_step : (test : ℕ → Bool) (n : ℕ) → first_below test (suc n) ≡ first_with (first_below test n) n (test n)
unfolding first_below
first_step test n = by_cases (first_below test n)
  where
    by_cases : (o : Option ℕ) → elim o [ Some k ↦ Some k | None ↦ cond (test n) (Some n) None ] ≡ first_with o n (test n)
    by_cases None = refl
    by_cases (Some k) = refl

last_step : (test : ℕ → Bool) (n : ℕ) → last_below test (suc n) ≡ last_with (last_below test n) n (test n)
unfolding last_below
last_step test n = refl

pub first_start : (test : ℕ → Bool) → None ≡ first_below test 0
unfolding first_below
first_start test = refl

pub last_start : (test : ℕ → Bool) → None ≡ last_below test 0
unfolding last_below
last_start test = refl

pub first_more : (test : ℕ → Bool) (n : ℕ) (found new : Option ℕ) (passes : Bool) → found ≡ first_below test n → passes ≡ test n → new ≡ first_with found n passes → new ≡ first_below test (n + 1)
first_more test n found new passes f p e =
    let s : n + 1 ≡ suc n = omega arith in
    e ∙ (ap (λ o. first_with o n passes) f ∙ (ap (λ b. first_with (first_below test n) n b) p ∙ (sym (first_step test n) ∙ ap (first_below test) (sym s))))

pub last_more : (test : ℕ → Bool) (n : ℕ) (found new : Option ℕ) (passes : Bool) → found ≡ last_below test n → passes ≡ test n → new ≡ last_with found n passes → new ≡ last_below test (n + 1)
last_more test n found new passes f p e =
    let s : n + 1 ≡ suc n = omega arith in
    e ∙ (ap (λ o. last_with o n passes) f ∙ (ap (λ b. last_with (last_below test n) n b) p ∙ (sym (last_step test n) ∙ ap (last_below test) (sym s))))

pub first_done : (test : ℕ → Bool) (n m : ℕ) (found : Option ℕ) → found ≡ first_below test n → n ≤ m → m ≤ n → found ≡ first_below test m
first_done test n m found f a b = let e : n ≡ m = omega arith in f ∙ ap (first_below test) e

pub last_done : (test : ℕ → Bool) (n m : ℕ) (found : Option ℕ) → found ≡ last_below test n → n ≤ m → m ≤ n → found ≡ last_below test m
last_done test n m found f a b = let e : n ≡ m = omega arith in f ∙ ap (last_below test) e

-- an answer is below the bound
pub within_more : (n : ℕ) (found new : Option ℕ) (passes : Bool) → IfSome found (λ k. k < n) → new ≡ first_with found n passes → IfSome new (λ k. k < n + 1)
within_more n found new passes lt e = subst (λ (o : Option ℕ). IfSome o (λ k. k < n + 1)) (sym e) (by_cases found passes lt)
  where
    by_cases : (o : Option ℕ) (passes : Bool) → IfSome o (λ k. k < n) → IfSome (first_with o n passes) (λ k. k < n + 1)
    by_cases (Some k) passes lt = omega arith
    by_cases None true lt = omega arith
    by_cases None false lt = tt

-- places that don't pass add nothing
pub last_quiet : (test : ℕ → Bool) (n d : ℕ) → ((j : ℕ) → n ≤ j → test j ≡ false) → last_below test (n + d) ≡ last_below test n
last_quiet test n zero quiet = let e : n + zero ≡ n = omega arith in ap (last_below test) e
last_quiet test n (suc d) quiet =
    let e : n + suc d ≡ suc (n + d) = omega arith in
    ap (last_below test) e ∙ (last_step test (n + d) ∙ (ap (λ b. last_with (last_below test (n + d)) (n + d) b) (quiet (n + d) (omega arith)) ∙ last_quiet test n d quiet))
