-- The parts that the grains of a lane are made of: volumes with their disks, and the pool.
use Rattle.std.specs.Prelude.{◌≡◌, ℕ, ◌+◌, ◌^◌, ◌<◌, Bool, true, false, List, [], ◌∷◌, ◌++◌, drop, length, map, replicate, slice_set, Result, Ok, Err}
use Rattle.std.specs.List.{All, sum_by}
use Rattle.std.specs.Simd.Lanes.{zip2}
use Rattle.fc_base.specs.Pools.{Pool}
use Rattle.fc_base.specs.declared.disk.DiskError.{DiskError}
use Rattle.fc_base.specs.declared.disk.DiskError.TheVariants.{Failed, NoMemory}
use Rattle.fc_base.specs.declared.disk.DiskKind.{DiskKind}
use Rattle.fc_base.specs.declared.disk.DiskKind.TheVariants.{Flat, Thin}
use Rattle.fc_base.specs.declared.ids.VolId.{VolId}
use Rattle.fc_mdisk.specs.Disk.{DiskState, cleared, is_flat}
use Rattle.fc_mdisk.specs.Disks.{disk_at, formatted_at}
use Rattle.fc_entry.specs.Picture.{Content, Bytes, Lost}
use Rattle.fc_grains.specs.Grains.{NewVolume, IsUnarmed}
use Rattle.fc_grains.specs.Volumes.{VolumeGrains}
use Rattle.fc_grains.specs.declared.pool.Reserved.{Reserved}

-- A volume's disk, and which of its grains are lost.
pub record VolumeDiskState : Type 0 where
  pub volume : VolId
  pub disk : DiskState
  pub lost : List Bool

-- What a grain holds: nothing that can be read where it is marked as lost.
abbrev pub content : Bool → List ℕ → Content
content true bytes = Lost
content false bytes = Bytes bytes

abbrev pub contents : List Bool → List (List ℕ) → List Content
contents lost grains = zip2 content lost grains

-- Which grains occupy memory: all of a flat disk, and of a thin one those that a write reached.
abbrev pub reached_as : DiskKind → List (List ℕ) → List Bool → List Bool
reached_as Flat grains occupied = map (λ _. true) grains
reached_as Thin grains occupied = occupied

abbrev pub grains_of : VolumeDiskState → VolumeGrains
grains_of v =
    record {
      volume = v.volume;
      kind = v.disk.kind;
      contents = contents v.lost v.disk.grains;
      reached = reached_as v.disk.kind v.disk.grains v.disk.occupied;
      due = v.disk.due;
    }

-- Every grain has so many bytes and a mark.
pub record IsWhole (bytes : ℕ) (v : VolumeDiskState) : Type 0 where
  pub marked : length v.lost ≡ length v.disk.grains
  pub whole : All (λ grain. length grain ≡ bytes) v.disk.grains

-- The marks after a write of a grain.
abbrev pub lost_after : {A : Type 0} → Result A DiskError → List Bool → ℕ → List Bool
lost_after (Ok _) lost place = slice_set lost place false
lost_after (Err Failed) lost place = slice_set lost place true
lost_after (Err NoMemory) lost place = lost

-- Disks of both kinds, of each in the order in which they are taken.
pub record QueuesState : Type 0 where
  pub flat : List DiskState
  pub thin : List DiskState

abbrev pub queue_of : DiskKind → QueuesState → List DiskState
queue_of Flat queues = queues.flat
queue_of Thin queues = queues.thin

-- The queues, when that of a kind becomes another.
abbrev pub with_queue : DiskKind → List DiskState → QueuesState → QueuesState
with_queue Flat queue queues = record queues { flat = queue }
with_queue Thin queue queues = record queues { thin = queue }

-- The queues, when a disk of that kind was formatted.
abbrev pub formatted_in : DiskKind → ℕ → ℕ → ℕ → QueuesState → QueuesState
formatted_in kind place grains bytes queues = with_queue kind (formatted_at place grains bytes (queue_of kind queues)) queues

abbrev pub disks_in : QueuesState → List DiskState
disks_in queues = queues.flat ++ queues.thin

-- The disks are of their kinds, and none of them has an armed fault.
pub record AreSorted (flat thin : List DiskState) : Type 0 where
  pub all_flat : All (λ (d : DiskState). d.kind ≡ Flat) flat
  pub all_thin : All (λ (d : DiskState). d.kind ≡ Thin) thin
  pub flat_unarmed : All IsUnarmed flat
  pub thin_unarmed : All IsUnarmed thin
  pub few : length flat + length thin < 2 ^ 32

-- The disks for new volumes, and the marks of the volumes to come.
pub record PoolState : Type 0 where
  pub bytes : ℕ
  pub queues : QueuesState
  pub reserved : List Reserved

abbrev pub new_of : Reserved → NewVolume
new_of r = record { kind = r.kind; grains = length r.lost }

abbrev pub left_in : QueuesState → Pool
left_in queues = record { flat = length queues.flat; thin = length queues.thin }

abbrev pub left_of : PoolState → Pool
left_of pool = left_in pool.queues

abbrev pub disks_of : PoolState → List DiskState
disks_of pool = disks_in pool.queues

-- A disk with so many grains of zeros.
abbrev pub HasZeros : ℕ → ℕ → DiskState → Type 0
HasZeros bytes count disk = disk.grains ≡ replicate count (replicate bytes 0)

-- A disk with so many grains that no write reached: those of a flat disk occupy memory, and those of a thin one don't.
abbrev pub HasNoWrites : ℕ → DiskState → Type 0
HasNoWrites count disk = disk.occupied ≡ replicate count (is_flat disk.kind)

-- A disk is formatted for a volume to come, none of whose grains are lost.
pub record IsReady (bytes : ℕ) (r : Reserved) (disk : DiskState) : Type 0 where
  pub zeros : HasZeros bytes (length r.lost) disk
  pub unwritten : HasNoWrites (length r.lost) disk
  pub unmarked : r.lost ≡ replicate (length r.lost) false

-- The first disks of each kind are ready for the volumes to come.
abbrev pub AreReady : ℕ → QueuesState → List Reserved → Type 0
AreReady bytes queues [] = Unit {0}
AreReady bytes queues (r ∷ rest) =
    (0 < length (queue_of r.kind queues))
    × IsReady bytes r (disk_at (queue_of r.kind queues) 0)
    × AreReady bytes (with_queue r.kind (drop 1 (queue_of r.kind queues)) queues) rest

-- The same disks, in any order: whatever is added up over them, their grains aside, is the same.
abbrev pub SameDisks : List DiskState → List DiskState → Type 0
SameDisks xs ys = (count : DiskState → ℕ) → sum_by (λ d. count (cleared d)) xs ≡ sum_by (λ d. count (cleared d)) ys
