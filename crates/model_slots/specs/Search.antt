-- The first and the last place that passes a test, after one more place.
use Rattle.std.specs.Prelude.{◌≡◌, ℕ, Bool, cond, Option, Some, None}

abbrev pub first_with : Option ℕ → ℕ → Bool → Option ℕ
first_with (Some k) place passes = Some k
first_with None place passes = cond passes (Some place) None

abbrev pub last_with : Option ℕ → ℕ → Bool → Option ℕ
last_with found place passes = cond passes (Some place) found

-- A test of places, as calls of a closure answer it.
abbrev pub Tests : (ℕ → Bool → Type 0) → (ℕ → Bool) → Type 0
Tests answers test = (k : ℕ) (passes : Bool) → answers k passes → passes ≡ test k
