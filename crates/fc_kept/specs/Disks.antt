-- The disks that a store comes back with, and what stands on them by metadata.
use Rattle.std.specs.Prelude.{◌≡◌, ℕ, Bool, true, false, not, ◌&&◌, ◌==◌, if◌then◌else◌, List, length, find, Contains, Option, Some, None, is_some}
use Rattle.fc_base.specs.Tables.{Tables}
use Rattle.fc_base.specs.declared.disk.DiskKind.{DiskKind}
use Rattle.fc_base.specs.declared.disk.DiskKind.TheVariants.{Flat, Thin}
use Rattle.fc_base.specs.declared.ids.VolId.{VolId}
use Rattle.fc_base.specs.declared.volume.Volume.{Volume}
use Rattle.fc_entry.specs.Picture.{Content, Bytes, Lost, zeros}
use Rattle.fc_mdisk.specs.Disk.{DiskState, grain_at}
use Rattle.fc_rules.specs.LaneTold.{LaneOf, number_at, grains_in}
use Rattle.fc_rules.specs.Shows.{Stored}
use Rattle.fc_kept.specs.Kept.{Kept, is_lost_in}

-- A disk of a lane, with the volume that it was of. A disk for new volumes has none.
pub record NamedDisk : Type 0 where
  pub volume : Option VolId
  pub disk : DiskState

abbrev pub is_of : ℕ → NamedDisk → Bool
is_of v disk = named disk.volume
  where
    named : Option VolId → Bool
    named None = false
    named (Some id) = id.0 == v

abbrev pub disk_of : List NamedDisk → ℕ → Option NamedDisk
disk_of disks v = find (is_of v) disks

-- Whether two kinds are one; and whether a disk is free for a new volume of this kind.
abbrev pub is_kind : DiskKind → DiskKind → Bool
is_kind Flat Flat = true
is_kind Thin Thin = true
is_kind kind other = false

abbrev pub is_free : DiskKind → NamedDisk → Bool
is_free kind disk = not (is_some disk.volume) && is_kind kind disk.disk.kind

-- What a lane's disks store of each volume at a place, if metadata says so much: lost where it says so, else the bytes on the
-- volume's disk. A volume without a disk gets one with zeros.
abbrev pub on_disk : LaneOf → Option NamedDisk → ℕ → Content
on_disk l None g = zeros l.grain
on_disk l (Some disk) g = Bytes (grain_at disk.disk.grains g)

abbrev pub stored_on : LaneOf → List NamedDisk → Kept → Stored
stored_on l disks k v g = if is_lost_in k.lost v (number_at l g) then Lost else on_disk l (disk_of disks v) g

-- A lane's disks fit the tables: a volume's disk has its kind and its grains of the lane; and of one volume at most there may be
-- none yet, but then a disk of its kind for a new volume. A volume's disk is the first with its id.
pub record FitDisks (l : LaneOf) (disks : List NamedDisk) (t : Tables) : Type 0 where
  pub named : (v : Volume) (disk : NamedDisk) → Contains t.volumes v → disk_of disks v.id.0 ≡ Some disk →
      (disk.disk.kind ≡ v.kind) × (length disk.disk.grains ≡ grains_in l v.grains)
  pub unnamed : (v : Volume) → Contains t.volumes v → disk_of disks v.id.0 ≡ None →
      (disk : NamedDisk) × Contains disks disk × (disk.volume ≡ None) × (disk.disk.kind ≡ v.kind)
  pub one : (v w : Volume) → Contains t.volumes v → Contains t.volumes w → disk_of disks v.id.0 ≡ None →
      disk_of disks w.id.0 ≡ None → v.id.0 ≡ w.id.0
