-- A buffer that is cut into grains.
use Rattle.std.specs.Prelude.{ℕ, zero, suc, List, [], ◌∷◌, take, drop}

-- The first `count` pieces of `width` bytes each.
abbrev pub cut : ℕ → ℕ → List ℕ → List (List ℕ)
cut zero width bytes = []
cut (suc count) width bytes = take width bytes ∷ cut count width (drop width bytes)
