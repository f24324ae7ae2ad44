-- What the grains of a thin disk stand for.
use Rattle.std.specs.Prelude.{◌≡◌, ℕ, Bool, true, false, List, length, replicate}
use Rattle.fc_mdisk.specs.Grains.{half_written}
use Rattle.fc_mdisk.specs.declared.thin_grains.ThinGrain.{ThinGrain}
use Rattle.fc_mdisk.specs.declared.thin_grains.ThinGrain.TheVariants.{Unwritten, Lost, Written}

-- A grain without memory reads as zeros.
abbrev pub bytes_of : ℕ → ThinGrain → List ℕ
bytes_of width Unwritten = replicate width 0
bytes_of width Lost = replicate width 0
bytes_of width (Written bytes) = bytes.items

-- Whether a write reached it.
abbrev pub is_reached : ThinGrain → Bool
is_reached Unwritten = false
is_reached Lost = true
is_reached (Written bytes) = true

-- Whether it has memory.
abbrev pub has_memory : ThinGrain → Bool
has_memory Unwritten = false
has_memory Lost = false
has_memory (Written bytes) = true

-- The bytes that a write that fails leaves: half of those written, where the grain has memory.
abbrev pub torn : ℕ → ThinGrain → List ℕ → List ℕ
torn width Unwritten bytes = replicate width 0
torn width Lost bytes = replicate width 0
torn width (Written kept) bytes = half_written bytes kept.items

-- A grain takes a write of these bytes: it has no memory yet, or memory for as many.
abbrev pub Takes : ThinGrain → List ℕ → Type 0
Takes Unwritten bytes = Unit {0}
Takes Lost bytes = Unit {0}
Takes (Written kept) bytes = length kept.items ≡ length bytes
