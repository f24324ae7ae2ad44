-- The bytes that are left to be read.
use Rattle.std.specs.Prelude.{ℕ, ◌-◌, Bool, true, false, List, [], ◌∷◌, length, drop, Option, Some, None}

-- the bytes, and the place on the disk at which they end
pub record Left : Type 0 where
  pub bytes : List ℕ
  pub end : ℕ

-- the place of the first byte
abbrev pub place : Left → ℕ
place s = s.end - length s.bytes

-- what is left behind k bytes
abbrev pub passed : ℕ → Left → Left
passed k s = record { bytes = drop k s.bytes; end = s.end }

abbrev pub first_byte : List ℕ → Option ℕ
first_byte [] = None
first_byte (b ∷ bytes) = Some b

abbrev pub has_none : List ℕ → Bool
has_none [] = true
has_none (b ∷ bytes) = false
