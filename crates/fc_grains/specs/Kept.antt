-- What always holds of the fields.
use Rattle.std.specs.Prelude.{◌≡◌, ℕ, ◌+◌, ◌^◌, ◌<◌, ◌≤◌, List, ◌++◌, map, length}
use Rattle.std.specs.List.{All, AllPairs}
use Rattle.fc_base.specs.Grain.{grain_bytes}
use Rattle.fc_base.specs.declared.size.GrainSize.{GrainSize}
use Rattle.fc_mdisk.specs.Disk.{DiskState}
use Rattle.fc_mdisk.specs.Disks.{calls_of, faults_of, write_faults_of}
use Rattle.fc_grains.specs.Grains.{GrainsState, pool_of, silent_of, stopped}
use Rattle.fc_grains.specs.Volumes.{HoldsNothing}
use Rattle.fc_grains.specs.Parts.{VolumeDiskState, PoolState, IsWhole, disks_of, grains_of, left_of, new_of}
use Rattle.fc_grains.specs.declared.sums.Sums.{Sums}

-- All disks.
abbrev pub all_disks : List VolumeDiskState → PoolState → List DiskState → List DiskState
all_disks volumes pool aside = map (λ v. v.disk) volumes ++ (disks_of pool ++ aside)

-- What contracts see.
abbrev pub state_of : GrainSize → List VolumeDiskState → PoolState → List DiskState → List ℕ → Sums → GrainsState
state_of grain volumes pool aside buffer sums = record {
  grain = grain;
  volumes = map grains_of volumes;
  pool = left_of pool;
  reserved = map new_of pool.reserved;
  buffer = buffer;
  pooled = disks_of pool;
  aside = aside;
  disks = pool_of (all_disks volumes pool aside);
  silent = silent_of (all_disks volumes pool aside);
  calls = sums.calls;
  faults = sums.faults;
  write_faults = sums.write_faults;
}

-- The counts of disks, each up to the last value of its type.
pub record AddUp (disks : List DiskState) (sums : Sums) : Type 0 where
  pub calls : sums.calls ≡ stopped (calls_of disks)
  pub faults : sums.faults ≡ stopped (faults_of disks)
  pub write_faults : sums.write_faults ≡ stopped (write_faults_of disks)

-- Ids rise, grains are whole, disks put aside hold no grain, the sums are those of all disks, and there is room for each new
-- volume and for the disk of each volume that goes.
pub record IsKept (grain : GrainSize) (volumes : List VolumeDiskState) (pool : PoolState) (aside : List DiskState) (buffer : List ℕ) (sums : Sums) (volume_room aside_room : ℕ) : Type 0 where
  pub buffer_size : length buffer ≡ grain_bytes grain
  pub pool_size : pool.bytes ≡ grain_bytes grain
  pub rising : AllPairs (λ (v w : VolumeDiskState). v.volume.0 < w.volume.0) volumes
  pub whole : All (IsWhole (grain_bytes grain)) volumes
  pub empty : All HoldsNothing aside
  pub add_up : AddUp (all_disks volumes pool aside) sums
  pub few : length volumes + length (disks_of pool) < 2 ^ 32
  pub room : length volumes + length pool.reserved ≤ volume_room
  pub room_aside : length aside + length volumes + length pool.reserved ≤ aside_room
