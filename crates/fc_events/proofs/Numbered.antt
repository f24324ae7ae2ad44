-- The numbers of a lane's grains are numbers of 32 bits.
use Rattle.std.proofs.Common.{◌≡◌, ℕ, ◌+◌, ◌-◌, ◌*◌, ◌/◌, ◌%◌, ◌^◌, ◌<◌, ◌≤◌, max, subst, arith, inl, inr}
use Rattle.std.proofs.lemmas.Bool.{cases_lt}
use Rattle.std.proofs.lemmas.Nat.{mul-le, div-add-mod'}
use Rattle.fc_events.specs.LaneGrains.{AreNumbered, lane_grains}

row_more : (p n : ℕ) → (p + 1) * n ≡ p * n + n
row_more p n = grind arith

number_below : (i n p x : ℕ) → i < n → p < (x + n - 1 - i) / n → p * n + i < x
number_below i n p x lt h =
    let a : (p + 1) * n ≤ (x + n - 1 - i) / n * n = mul-le (p + 1) n ((x + n - 1 - i) / n) n (omega arith) (omega arith) in
    let b : (x + n - 1 - i) / n * n + (x + n - 1 - i) % n ≡ x + n - 1 - i = div-add-mod' (x + n - 1 - i) n in
    let c : (p + 1) * n ≡ p * n + n = row_more p n in
    omega arith

pub grains_numbered : (lane lanes grains r : ℕ) → lane < lanes → grains < 2 ^ 32 → r ≡ lane_grains lane lanes grains → AreNumbered lane lanes r
grains_numbered lane lanes grains r i few e p lt =
    let b : p < (grains + lanes - 1 - lane) / lanes = subst (λ z. p < z) e lt in
    let h : p * lanes + lane < grains = number_below lane lanes p grains i b in
    omega arith

pub none_numbered : (lane lanes : ℕ) → AreNumbered lane lanes 0
none_numbered lane lanes p lt = absurd (omega arith)

pub wider_numbered : (lane lanes a b : ℕ) → AreNumbered lane lanes a → AreNumbered lane lanes b → AreNumbered lane lanes (max a b)
wider_numbered lane lanes a b few more p lt =
    elim (cases_lt p a) [
      | inl low ↦ few p low
      | inr high ↦ more p (omega arith)
    ]
