-- The disks that lanes keep for new volumes.
use Rattle.std.specs.Prelude.{ℕ, ◌-◌, min, List, [], ◌∷◌}
use Rattle.fc_base.specs.declared.disk.DiskKind.{DiskKind}
use Rattle.fc_base.specs.declared.disk.DiskKind.TheVariants.{Flat, Thin}

-- how many disks of each kind a lane has for new volumes
pub record Pool : Type 0 where
  pub flat : ℕ
  pub thin : ℕ

-- how many of one kind
abbrev pub of_kind : DiskKind → Pool → ℕ
of_kind Flat pool = pool.flat
of_kind Thin pool = pool.thin

-- the pool without one disk of the kind
abbrev pub pool_without : DiskKind → Pool → Pool
pool_without Flat pool = record pool { flat = pool.flat - 1 }
pool_without Thin pool = record pool { thin = pool.thin - 1 }

-- the least number of disks of the kind that some lane has
abbrev pub least_of_kind : DiskKind → List Pool → ℕ
least_of_kind kind [] = 0
least_of_kind kind (pool ∷ []) = of_kind kind pool
least_of_kind kind (pool ∷ next ∷ pools) = min (of_kind kind pool) (least_of_kind kind (next ∷ pools))
