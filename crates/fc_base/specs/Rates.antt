-- What a copy rate or a clean rate means.
use Rattle.std.specs.Prelude.{ℕ, List, [], ◌∷◌, nat_le, find}
use Rattle.std.specs.Option.{option_map_or}

-- The table of rates: the greatest rate of each row, and the KiB per second that rates up to it mean.
-- Rate 0 means no work, rates 1 to 10 mean 128 KiB per second, and each further ten doubles it.
abbrev pub rate_table : List (ℕ × ℕ)
rate_table =
    (0, 0)
    ∷ (10, 128)
    ∷ (20, 256)
    ∷ (30, 512)
    ∷ (40, 1024)
    ∷ (50, 2048)
    ∷ (60, 4096)
    ∷ (70, 8192)
    ∷ (80, 16384)
    ∷ (90, 32768)
    ∷ (100, 65536)
    ∷ (110, 131072)
    ∷ (120, 262144)
    ∷ (130, 524288)
    ∷ (140, 1048576)
    ∷ (150, 2097152)
    ∷ []

-- The KiB per second that a rate means: those of the first row that reaches it.
unfoldable pub kib_of_rate : ℕ → ℕ
kib_of_rate rate = option_map_or (λ row. row.1) (find (λ row. nat_le rate row.0) rate_table) 0
