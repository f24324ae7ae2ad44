-- The grains of a disk in memory, without its counts.
use Rattle.std.specs.Prelude.{◌≡◌, ℕ, ◌/◌, Bool, List, ◌++◌, length, take, drop, ◌⊎◌}
use Rattle.fc_base.specs.declared.disk.DiskKind.{DiskKind}
use Rattle.fc_base.specs.declared.disk.DiskKind.TheVariants.{Flat, Thin}

-- The bytes of each grain, and whether it occupies memory.
pub record GrainsState : Type 0 where
  pub grains : List (List ℕ)
  pub occupied : List Bool

-- A grain of which the first half was written over.
abbrev pub half_written : List ℕ → List ℕ → List ℕ
half_written bytes old = take (length bytes / 2) bytes ++ drop (length bytes / 2) old

-- What a write that fails leaves in its grain: half of the bytes; of a thin disk half or none, since whether its grain has
-- memory isn't told here.
abbrev pub IsTorn : DiskKind → List ℕ → List ℕ → List ℕ → Type 0
IsTorn Flat bytes old new = new ≡ half_written bytes old
IsTorn Thin bytes old new = (new ≡ half_written bytes old) ⊎ (new ≡ old)
