-- Rows of bits in words of 64: bit g of the row is bit g mod 64 of word g / 64.
use Rattle.std.specs.Prelude.{ℕ, ◌-◌, ◌/◌, ◌%◌, ◌^◌, List, slice_index, slice_set, bit_and, bit_or, Bool, if◌then◌else◌}

-- the row with bit g set; past the last word it stays as it is
abbrev pub with_bit : List ℕ → ℕ → List ℕ
with_bit words g = slice_set words (g / 64) (bit_or (slice_index words (g / 64)) (2 ^ (g % 64)))

-- the row with bit g clear
abbrev pub without_bit : List ℕ → ℕ → List ℕ
without_bit words g = slice_set words (g / 64) (bit_and (slice_index words (g / 64)) (2 ^ 64 - 1 - 2 ^ (g % 64)))

-- the row with bit g as it is told
abbrev pub bit_put : List ℕ → ℕ → Bool → List ℕ
bit_put words g value = if value then with_bit words g else without_bit words g
