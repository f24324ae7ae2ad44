-- All that contracts see of the grains of a lane.
use Rattle.std.specs.Prelude.{◌≡◌, ℕ, ◌+◌, ◌-◌, ◌≤◌, ◌^◌, min, Bool, not, List, [], ◌∷◌, ◌++◌, filter, length, replicate, reverse, count_by, Option, Some, None, IfSome}
use Rattle.std.specs.List.{All, sum_by}
use Rattle.fc_base.specs.Grain.{grain_bytes}
use Rattle.fc_base.specs.Pools.{Pool}
use Rattle.fc_base.specs.declared.disk.DiskKind.{DiskKind}
use Rattle.fc_base.specs.declared.disk.DiskKind.TheVariants.{Flat, Thin}
use Rattle.fc_base.specs.declared.size.GrainSize.{GrainSize}
use Rattle.fc_mdisk.specs.Disk.{DiskState, is_flat}
use Rattle.fc_mdisk.specs.Disks.{calls_of, faults_of, write_faults_of}
use Rattle.fc_grains.specs.Volumes.{VolumeGrains, HoldAll, HoldsNothing}

-- A volume that is to be made.
pub record NewVolume : Type 0 where
  pub kind : DiskKind
  pub grains : ℕ

-- The volumes that are there, in order of id; how many disks are left for new volumes; the new volumes that take no memory, in
-- the order in which they are made; the bytes of the grain at hand; the disks of the pool, and those put aside, of volumes
-- that went; and of all disks together: how many of each kind there are, how many of them don't tell their armed fault, and
-- their counts, which stand still at 2^64 - 1.
pub record GrainsState : Type 0 where
  pub grain : GrainSize
  pub volumes : List VolumeGrains
  pub pool : Pool
  pub reserved : List NewVolume
  pub buffer : List ℕ
  pub pooled : List DiskState
  pub aside : List DiskState
  pub disks : Pool
  pub silent : ℕ
  pub calls : ℕ
  pub faults : ℕ
  pub write_faults : ℕ

-- A count that stands still at the last value of its type.
abbrev pub stopped : ℕ → ℕ
stopped n = min n (2 ^ 64 - 1)

-- How many disks don't tell their armed fault.
abbrev pub one_if_silent : Option ℕ → ℕ
one_if_silent None = 1
one_if_silent (Some _) = 0

abbrev pub silent_of : List DiskState → ℕ
silent_of disks = sum_by (λ d. one_if_silent d.due) disks

-- How many disks of each kind there are.
abbrev pub pool_of : List DiskState → Pool
pool_of disks = record {
  flat = count_by (λ d. is_flat d.kind) disks;
  thin = count_by (λ d. not (is_flat d.kind)) disks;
}

-- The disks by kind, the flat ones first, of each kind in order.
abbrev pub by_kind : List DiskState → List DiskState
by_kind disks = filter (λ d. is_flat d.kind) disks ++ filter (λ d. not (is_flat d.kind)) disks

-- How many disks of both kinds.
abbrev pub total_of : Pool → ℕ
total_of pool = pool.flat + pool.thin

-- How many of the new volumes are of a kind.
abbrev pub is_of_kind : DiskKind → NewVolume → Bool
is_of_kind Flat new = is_flat new.kind
is_of_kind Thin new = not (is_flat new.kind)

abbrev pub reserved_of : DiskKind → List NewVolume → ℕ
reserved_of kind reserved = count_by (is_of_kind kind) reserved

-- The new volume that is made next.
abbrev pub next_of : List NewVolume → NewVolume
next_of [] = record { kind = Flat; grains = 0 }
next_of (new ∷ reserved) = new

-- Where a disk of a kind stands in the pool that has so many of its kind before it: the flat disks come first.
abbrev pub place_in : DiskKind → ℕ → Pool → ℕ
place_in Flat before pool = before
place_in Thin before pool = pool.flat + before

-- Where the disk stands that the next new volume gets: the first of its kind.
abbrev pub next_place : List NewVolume → Pool → ℕ
next_place reserved pool = place_in (next_of reserved).kind 0 pool

-- Where the first disk of a kind stands that no new volume gets.
abbrev pub free_place : DiskKind → List NewVolume → Pool → ℕ
free_place kind reserved pool = place_in kind (reserved_of kind reserved) pool

-- A disk that tells its armed fault has none.
abbrev pub IsUnarmed : DiskState → Type 0
IsUnarmed disk = IfSome disk.due (λ n. n ≡ 0)

-- No volumes, over these disks, all of them in the pool.
abbrev pub opened : GrainSize → List DiskState → GrainsState
opened grain disks = record {
  grain = grain;
  volumes = [];
  pool = pool_of disks;
  reserved = [];
  buffer = replicate (grain_bytes grain) 0;
  pooled = by_kind disks;
  aside = [];
  disks = pool_of disks;
  silent = silent_of disks;
  calls = stopped (calls_of disks);
  faults = stopped (faults_of disks);
  write_faults = stopped (write_faults_of disks);
}

-- Every grain of the disk is a whole one.
abbrev pub HasWholeGrains : GrainSize → DiskState → Type 0
HasWholeGrains grain disk = All (λ (bytes : List ℕ). length bytes ≡ grain_bytes grain) disk.grains

-- These disks are all that there are, with their counts: no fault is told that they didn't count. Those of the volumes come
-- first, from the last volume to the first, with the grains that they held, whole ones, also where they are lost; then those of the
-- pool, as they were, and those put aside, which hold no grain.
pub record AreAllOf (state : GrainsState) (disks : List DiskState) : Type 0 where
  pub kinds : pool_of disks ≡ state.disks
  pub silent : silent_of disks ≡ state.silent
  pub calls : stopped (calls_of disks) ≡ state.calls
  pub faults : stopped (faults_of disks) ≡ state.faults
  pub write_faults : stopped (write_faults_of disks) ≡ state.write_faults
  pub faults_counted : state.faults ≤ faults_of disks
  pub write_faults_counted : state.write_faults ≤ write_faults_of disks
  pub own : List DiskState
  pub in_order : disks ≡ own ++ (state.pooled ++ state.aside)
  pub held : HoldAll (reverse state.volumes) own
  pub whole : All (HasWholeGrains state.grain) own
  pub empty : All HoldsNothing state.aside
