-- When the disks of all lanes agree by metadata. Of a lost grain metadata says that nobody reads it, so there they may differ.
use Rattle.std.specs.Prelude.{◌≡◌, ℕ, ◌<◌, false, List, length, filter, Option, Some, None}
use Rattle.fc_base.specs.declared.disk.DiskKind.{DiskKind}
use Rattle.fc_base.specs.declared.size.GrainSize.{GrainSize}
use Rattle.fc_rules.specs.LaneTold.{LaneOf, number_at}
use Rattle.fc_kept.specs.Disks.{NamedDisk, disk_of, on_disk, is_free}
use Rattle.fc_kept.specs.Kept.{Kept, is_lost_in}
use Rattle.fc_kept.specs.Recoverable.{disks_at}

-- A volume's disk is there in both or in neither, of one kind and with as many grains.
abbrev pub SameSize : Option NamedDisk → Option NamedDisk → Type 0
SameSize None None = Unit {0}
SameSize (Some x) (Some y) = (y.disk.kind ≡ x.disk.kind) × (length y.disk.grains ≡ length x.disk.grains)
SameSize x y = ⊥

-- Of a lane's disks: the same volumes have one, of each kind as many are free, and each grain that isn't lost has the same bytes.
pub record Agree (l : LaneOf) (k : Kept) (old new : List NamedDisk) : Type 0 where
  pub named : (v : ℕ) → SameSize (disk_of old v) (disk_of new v)
  pub free : (kind : DiskKind) → length (filter (is_free kind) new) ≡ length (filter (is_free kind) old)
  pub bytes : (v g : ℕ) → is_lost_in k.lost v (number_at l g) ≡ false → on_disk l (disk_of new v) g ≡ on_disk l (disk_of old v) g

-- The lane with this number, over the disks of all lanes.
abbrev pub lane_over : GrainSize → List (List NamedDisk) → ℕ → LaneOf
lane_over grain disks i = record { lane = i; lanes = length disks; grain = grain }

pub record AllAgree (grain : GrainSize) (k : Kept) (old new : List (List NamedDisk)) : Type 0 where
  pub count : length new ≡ length old
  pub each : (i : ℕ) → i < length old → Agree (lane_over grain old i) k (disks_at old i) (disks_at new i)
