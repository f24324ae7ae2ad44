-- What the calls of a disk leave of it, and what a crash may leave between two syncs.
use Rattle.std.specs.Prelude.{◌≡◌, ◌⊎◌, ℕ, ◌+◌, ◌≤◌, List, ◌++◌, length, take, drop}

-- n bytes from `at` on stand in the row
abbrev pub IsRange : (at n : ℕ) → List ℕ → Type 0
IsRange at n bytes = at + n ≤ length bytes

-- the n bytes from `at` on
abbrev pub bytes_at : (at n : ℕ) → List ℕ → List ℕ
bytes_at at n bytes = take n (drop at bytes)

-- the row with these bytes from `at` on
abbrev pub bytes_put : ℕ → List ℕ → List ℕ → List ℕ
bytes_put at bytes old = take at old ++ (bytes ++ drop (at + length bytes) old)

-- After a write of n bytes that a crash may have cut short: any bytes in the range, the same elsewhere.
pub record Torn (at n : ℕ) (old new : List ℕ) : Type 0 where
  pub before : take at new ≡ take at old
  pub after : drop (at + n) new ≡ drop (at + n) old
  pub size : length new ≡ length old

-- Each row that a crash may leave now is one that it might have left before, after a step.
abbrev pub Follows : (List ℕ → List ℕ → Type 0) → (List ℕ → Type 0) → (List ℕ → Type 0) → Type 0
Follows step old new = (c : List ℕ) → new c → (d : List ℕ) × old d × step d c

-- A crash leaves this and nothing else.
abbrev pub Only : List ℕ → (List ℕ → Type 0) → Type 0
Only row outcomes = (c : List ℕ) → outcomes c → c ≡ row

-- Time goes on: what a crash since t might have left, it might have left before, or it may leave it now.
pub record Elapses (before now : ℕ) (past since : ℕ → List ℕ → Type 0) (may_leave : List ℕ → Type 0) : Type 0 where
  pub later : before ≤ now
  pub nothing_else : (t : ℕ) (c : List ℕ) → t ≤ before → since t c → past t c ⊎ may_leave c

-- A crash at any moment since `old` leaves a row that has P.
pub record LeavesOnly {D : Type 0} (moment : D → ℕ) (left_since : D → ℕ → List ℕ → Type 0) (old new : D) (P : List ℕ → Type 0) : Type 0 where
  pub later : moment old ≤ moment new
  pub each : (c : List ℕ) → left_since new (moment old) c → P c
  -- for a run that began earlier
  pub before : (t : ℕ) (c : List ℕ) → t ≤ moment old → left_since new t c → left_since old t c ⊎ P c
