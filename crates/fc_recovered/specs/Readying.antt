-- Which disk a volume gets that came back without one.
use Rattle.std.specs.Prelude.{◌≡◌, ℕ, Bool, true, List, length, find, position, slice_set, Contains, All, Option, Some, None, is_none, is_some}
use Rattle.fc_base.specs.Grain.{grain_bytes}
use Rattle.fc_base.specs.declared.size.GrainSize.{GrainSize}
use Rattle.fc_base.specs.declared.volume.Volume.{Volume}
use Rattle.fc_mdisk.specs.Disk.{formatted}
use Rattle.fc_rules.specs.LaneTold.{LaneOf, grains_in}
use Rattle.fc_kept.specs.Disks.{NamedDisk, disk_of, is_free}
use Rattle.fc_recovered.specs.Answering.{disk_in}
use Rattle.fc_recovered.specs.declared.lane_size.LaneSize.{LaneSize}

-- ---- the lane

abbrev pub of_size : LaneSize → LaneOf
of_size size = record { lane = size.lane; lanes = size.lanes; grain = size.grain }

-- ---- the disk

-- A disk becomes the volume's, with zeros for each of the volume's grains of the lane.
abbrev pub given_to : LaneOf → Volume → NamedDisk → NamedDisk
given_to l v disk = record { volume = Some v.id; disk = formatted disk.disk (grains_in l v.grains) (grain_bytes l.grain) }

-- The first that is free for it does; without one nothing changes.
abbrev pub given_from : LaneOf → Volume → List NamedDisk → Option ℕ → List NamedDisk
given_from l v disks None = disks
given_from l v disks (Some p) = slice_set disks p (given_to l v (disk_in disks p))

abbrev pub given : LaneOf → List NamedDisk → Option Volume → List NamedDisk
given l disks None = disks
given l disks (Some v) = given_from l v disks (position (is_free v.kind) disks)

-- The first volume of the table that has no disk gets one.
abbrev pub is_diskless : List NamedDisk → Volume → Bool
is_diskless disks v = is_none (disk_of disks v.id.0)

abbrev pub readied : LaneOf → List Volume → List NamedDisk → List NamedDisk
readied l volumes disks = given l disks (find (is_diskless disks) volumes)

-- ---- disks that are ready

-- Every grain of the disk is a whole one, if it is a volume's.
abbrev pub HasWholeGrains : GrainSize → NamedDisk → Type 0
HasWholeGrains grain disk = is_some disk.volume ≡ true → All (λ (bytes : List ℕ). length bytes ≡ grain_bytes grain) disk.disk.grains

-- The volume has a disk of its kind, with a grain for each of the volume's in this lane.
pub record HasOwnDisk (l : LaneOf) (disks : List NamedDisk) (v : Volume) : Type 0 where
  pub disk : NamedDisk
  pub there : disk_of disks v.id.0 ≡ Some disk
  pub kind : disk.disk.kind ≡ v.kind
  pub grains : length disk.disk.grains ≡ grains_in l v.grains

-- Each volume has one, and the grains of all volumes' disks are whole.
pub record AllHaveDisks (l : LaneOf) (volumes : List Volume) (disks : List NamedDisk) : Type 0 where
  pub each : (v : Volume) → Contains volumes v → HasOwnDisk l disks v
  pub whole : All (HasWholeGrains l.grain) disks
