-- What is written stands inside its half.
use Rattle.std.proofs.Common.{◌≡◌, ℕ, ◌+◌, ◌<◌, ◌≤◌, List, length, ap, ◌∙◌, arith}

-- The bytes are this row, and fit behind so many others.
pub record IsInside (bytes row : List ℕ) (before size : ℕ) : Type 0 where
  pub is : bytes ≡ row
  pub inside : before + length row ≤ size

-- a row that was made, with a length below the half's, fits behind the gate
pub behind_gate : {bytes made written : List ℕ} {len held room size : ℕ} → bytes ≡ made → made ≡ written → len ≡ held → length bytes ≡ held → room ≡ size → len < room
    → IsInside bytes written 1 size
behind_gate value told count long half fits = record {
  is = value ∙ told;
  inside = let e = ap length (value ∙ told) in omega (arith, e, count, long, half, fits);
}

-- The bytes are this row, their place is behind the closed gate of the half, and they fit there.
pub record IsPlaced (bytes row : List ℕ) (start begin used size : ℕ) : Type 0 where
  pub is : bytes ≡ row
  pub at : start + used + 1 ≡ begin + used + 1
  pub inside : used + 1 + length row ≤ size

pub placed : {bytes made row : List ℕ} {start begin : ℕ} (used size : ℕ) → bytes ≡ made → made ≡ row → start ≡ begin → used + 1 + length row ≤ size
    → IsPlaced bytes row start begin used size
placed used size value told start inside = record { is = value ∙ told; at = omega (arith, start); inside = inside }
