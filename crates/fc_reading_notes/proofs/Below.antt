-- What holds of each number below a bound, number by number.
use Rattle.std.proofs.Common.{◌≡◌, ℕ, zero, suc, ◌<◌, ◌≤◌, subst, arith, inl, inr}
use Rattle.std.proofs.lemmas.Bool.{cases_lt}

abbrev pub AllBelow : (ℕ → Type 0) → ℕ → Type 0
AllBelow P zero = Unit {0}
AllBelow P (suc n) = AllBelow P n × P n

pub below_at : (P : ℕ → Type 0) (n : ℕ) → AllBelow P n → (i : ℕ) → i < n → P i
below_at P zero all i inside = absurd (omega (arith, inside))
below_at P (suc n) all i inside =
    elim (cases_lt i n) [
      | inl below ↦ below_at P n all.0 i below
      | inr last ↦ subst P (is_last last) all.1
    ]
  where
    is_last : n ≤ i → n ≡ i
    is_last past = omega (arith, inside, past)
