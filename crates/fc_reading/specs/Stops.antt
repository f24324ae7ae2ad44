-- Where bytes stop going on as a text of some kind.
use Rattle.std.specs.Prelude.{ℕ, ◌+◌, ◌<◌, ◌≤◌, List, ◌++◌, length, take}

-- The bytes before the place begin such a text, and no such text goes on with the byte at the place; nor is a front of the
-- bytes such a text. Where the place is the end of the bytes, they end too early.
pub record StopsAt (IsText : List ℕ → Type 0) (bytes : List ℕ) (place : ℕ) : Type 0 where
  pub within : place ≤ length bytes
  pub begins : (more : List ℕ) × IsText (take place bytes ++ more)
  pub stops : place < length bytes → (more : List ℕ) → IsText (take (place + 1) bytes ++ more) → ⊥
  pub none : (count : ℕ) → IsText (take count bytes) → ⊥
