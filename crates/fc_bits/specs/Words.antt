-- Words of 64 bits as one row of bits: bit b of word w is bit 64 * w + b of the row.
use Rattle.std.specs.Prelude.{◌≡◌, ℕ, ◌*◌, ◌/◌, ◌%◌, ◌^◌, ◌<◌, ◌≤◌, Bool, false, ◌==◌, List, length, map, slice_index}
use Rattle.std.specs.Int.{bit_at, div_ceil}
use Rattle.std.specs.List.{range_with_len}

-- the bit at place i of a word
abbrev pub is_set : ℕ → ℕ → Bool
is_set word i = bit_at word i == 1

-- bit g of the row whose word w is `row w`
unfoldable pub bit_in : (ℕ → ℕ) → ℕ → Bool
bit_in row g = is_set (row (g / 64)) (g % 64)

-- bit g of the words; past the last word all are clear
unfoldable pub bit_of : List ℕ → ℕ → Bool
bit_of words g = bit_in (slice_index words) g

-- the set of the first n grains that the words hold: bit g is grain g
unfoldable pub grains_of : ℕ → List ℕ → List Bool
grains_of n words = map (bit_of words) (range_with_len 0 n)

-- how many words n bits take
abbrev pub words_for : ℕ → ℕ
words_for n = div_ceil n 64

-- all bits of the words
abbrev pub bits_of : List ℕ → List Bool
bits_of words = grains_of (64 * length words) words

-- the words of a set of n grains, which a u32 counts: as many as these take, with the bits past the last grain clear
pub record IsTidy (n : ℕ) (words : List ℕ) : Type 0 where
  pub numbered : n < 2 ^ 32
  pub enough : length words ≡ words_for n
  pub spare_clear : (g : ℕ) → n ≤ g → bit_of words g ≡ false
