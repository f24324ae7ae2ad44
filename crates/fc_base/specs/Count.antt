-- Counts of calls and of faults, which stand still at the last value of their type, 2^64 - 1.
use Rattle.std.specs.Prelude.{◌≡◌, ◌⊎◌, ℕ, ◌+◌, ◌-◌, ◌<◌, ◌≤◌, ◌^◌, min, Bool}
use Rattle.std.specs.Bool.{OnTrue, OnFalse}

abbrev pub one_more : ℕ → ℕ
one_more n = min (n + 1) (2 ^ 64 - 1)

-- It rose, or stands at its last value.
abbrev pub HasRisen : ℕ → ℕ → Type 0
HasRisen old new = (old < new) ⊎ (new ≡ 2 ^ 64 - 1)

-- A count of faults over a call that may fail. It never falls, and rises where the call fails.
-- Where it is told beforehand which calls fail, it rises nowhere else.
pub record FaultsAfter (told failed : Bool) (old new : ℕ) : Type 0 where
  pub kept : old ≤ new
  pub cause : OnTrue failed (HasRisen old new)
  pub quiet : OnTrue told (OnFalse failed (new ≡ old))
