-- Births after others.
use Rattle.std.specs.Prelude.{ℕ, Bool, true, ltb, Option, Some, None}

-- Whether a birth comes after another, or after none.
abbrev pub is_after : Option ℕ → ℕ → Bool
is_after None b = true
is_after (Some a) b = ltb a b
