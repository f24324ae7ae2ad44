-- A count of calls that goes on by so many at once.
use Rattle.std.proofs.Common.{◌≡◌, ℕ, zero, suc, ◌+◌, ◌-◌, ◌^◌, ◌<◌, ◌≤◌, min, sym, ap, ◌∙◌, inl, inr, arith}
use Rattle.std.proofs.Math.Nat.{min-eq_left, min-eq_right, min-le_left, min-le_right}
use Rattle.std.proofs.lemmas.Bool.{cases_lt}
use Rattle.fc_base.specs.Count.{one_more}
use Rattle.fc_meta.proofs.Asked.{calls_added}
use Rattle.fc_meta.specs.Answers.{more_calls}

at_limit : (a : ℕ) → min (min a (2 ^ 64 - 1) + 1) (2 ^ 64 - 1) ≡ min (a + 1) (2 ^ 64 - 1)
at_limit a =
    elim (cases_lt a (2 ^ 64 - 1)) [
      | inl lt ↦ ap (λ (n : ℕ). min (n + 1) (2 ^ 64 - 1)) (min-eq_left (omega (arith, lt)))
      | inr le ↦
          let one : 2 ^ 64 - 1 ≤ 2 ^ 64 - 1 + 1 = omega arith in
          let more : 2 ^ 64 - 1 ≤ a + 1 = omega (arith, le) in
          ap (λ (n : ℕ). min (n + 1) (2 ^ 64 - 1)) (min-eq_right le) ∙ (min-eq_right one ∙ sym (min-eq_right more))
    ]

pub at_once : (k c : ℕ) → c < 2 ^ 64 → min (c + k) (2 ^ 64 - 1) ≡ more_calls k c
at_once zero c lt = min-eq_left (omega (arith, lt)) ∙ omega arith
at_once (suc k) c lt =
    let next : c + suc k ≡ c + k + 1 = omega arith in
    ap (λ (n : ℕ). min n (2 ^ 64 - 1)) next ∙ (sym (at_limit (c + k)) ∙ ap one_more (at_once k c lt))

-- more of them are no fewer
min_grows : (a b n : ℕ) → a ≤ b → min a n ≤ min b n
min_grows a b n le =
    elim (cases_lt b n) [
      | inl lt ↦ let e : min b n ≡ b = min-eq_left (omega (arith, lt)) in let l = min-le_left a n in omega (arith, e, l, le)
      | inr more ↦ let e : min b n ≡ n = min-eq_right more in let l = min-le_right a n in omega (arith, e, l)
    ]

pub more_grow : (a b : ℕ) → a ≤ b → more_calls a 0 ≤ more_calls b 0
more_grow a b le =
    let l = min_grows (0 + a) (0 + b) (2 ^ 64 - 1) (omega (arith, le)) in
    let x = at_once a 0 (omega arith) in
    let y = at_once b 0 (omega arith) in
    omega (arith, l, x, y)

-- behind others
pub counts_go_on : (k made c now : ℕ) → c < 2 ^ 64 → c ≡ more_calls made 0 → now ≡ min (c + k) (2 ^ 64 - 1) → now ≡ more_calls (made + k) 0
counts_go_on k made c now lt so_far e =
    let both : k + made ≡ made + k = omega arith in
    e ∙ (at_once k c lt ∙ (ap (more_calls k) so_far ∙ (calls_added k made 0 ∙ ap (λ (n : ℕ). more_calls n 0) both)))
