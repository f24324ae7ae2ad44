-- The disks that lanes hold, with the names of their volumes; and disks of which these are known but for lost grains.
use Rattle.std.specs.Prelude.{◌≡◌, ◌⊎◌, ℕ, ◌+◌, ◌<◌, ◌≤◌, ltb, Bool, false, ◌&&◌, if◌then◌else◌, List, ◌++◌, length, map, filter, reverse, slice_get, slice_index_or, All, Contains, Option, Some, None}
use Rattle.std.specs.List.{AllZip}
use Rattle.fc_base.specs.Pools.{of_kind}
use Rattle.fc_base.specs.declared.disk.DiskKind.{DiskKind}
use Rattle.fc_base.specs.declared.ids.VolId.{VolId}
use Rattle.fc_base.specs.declared.size.GrainSize.{GrainSize}
use Rattle.fc_base.specs.declared.volume.Volume.{Volume}
use Rattle.fc_entry.specs.Picture.{content_at}
use Rattle.fc_grains.specs.Grains.{GrainsState, HasWholeGrains, pool_of, total_of}
use Rattle.fc_grains.specs.Volumes.{HoldsGrains, VolumeGrains, is_there, stored, volume_of}
use Rattle.fc_kept.specs.Disks.{NamedDisk, disk_of, on_disk, is_free, is_kind}
use Rattle.fc_kept.specs.Kept.{Kept, is_lost_in}
use Rattle.fc_kept.specs.Recoverable.{disks_at}
use Rattle.fc_lane.specs.Lane.{LaneView}
use Rattle.fc_mdisk.specs.Disks.{calls_of, faults_of}
use Rattle.fc_rules.specs.LaneTold.{LaneOf, number_at}
use Rattle.fc_stands.specs.Store.{StoreView}
use Rattle.fc_steps.specs.Standing.{kind_of_grains}
use Rattle.law_agreeing.specs.Agreeing.{lane_over}

-- ---- what a lane gives back

-- The disk of a volume has its name, where metadata knows it: where its id is below the next one by metadata.
abbrev pub name_below : ℕ → VolumeGrains → Option VolId
name_below named v = if ltb v.volume.0 named then Some v.volume else None

pub record HeldBy (named : ℕ) (v : VolumeGrains) (d : NamedDisk) : Type 0 where
  pub name : d.volume ≡ name_below named v
  pub holds : HoldsGrains v d.disk

abbrev pub HasNoName : NamedDisk → Type 0
HasNoName d = d.volume ≡ None

-- The disks of the volumes, from the last to the first, with whole grains; then those of the pool, and those put aside, without a name.
-- These are all that the lane has, of each kind as many as it says, with no fewer calls and faults.
pub record HoldLane (named : ℕ) (g : GrainsState) (ds : List NamedDisk) : Type 0 where
  pub own : List NamedDisk
  pub rest : List NamedDisk
  pub in_order : ds ≡ own ++ rest
  pub held : AllZip (HeldBy named) (reverse g.volumes) own
  pub whole : All (λ (d : NamedDisk). HasWholeGrains g.grain d.disk) own
  pub free : map (λ (d : NamedDisk). d.disk) rest ≡ g.pooled ++ g.aside
  pub unnamed : (d : NamedDisk) → Contains rest d → HasNoName d
  pub kinds : pool_of (map (λ (d : NamedDisk). d.disk) ds) ≡ g.disks
  pub calls : g.calls ≤ calls_of (map (λ (d : NamedDisk). d.disk) ds)
  pub faults : g.faults ≤ faults_of (map (λ (d : NamedDisk). d.disk) ds)

-- Lane by lane.
pub record HoldAllOf (named : ℕ) (lanes : List LaneView) (ds : List (List NamedDisk)) : Type 0 where
  pub count : length ds ≡ length lanes
  pub each : (i : ℕ) (d : LaneView) → i < length lanes → HoldLane named (slice_index_or lanes i d).grains (disks_at ds i)

-- ---- disks that match what a lane holds

-- A volume that metadata knows, with a disk of this kind.
abbrev pub is_known : ℕ → DiskKind → VolumeGrains → Bool
is_known named kind v = ltb v.volume.0 named && is_kind kind v.kind

-- The disk of a volume, of its kind, with as many grains.
abbrev pub HasDisk : VolumeGrains → Option NamedDisk → Type 0
HasDisk x o = (d : NamedDisk) × (o ≡ Some d) × (d.disk.kind ≡ x.kind) × (length d.disk.grains ≡ length x.contents)

-- Those volumes that metadata knows have their disks, and all others of the lane's disks are free; and what metadata doesn't have as lost
-- is on the disks what the lane holds.
pub record Matches (l : LaneOf) (named : ℕ) (k : Kept) (g : GrainsState) (ds : List NamedDisk) : Type 0 where
  pub once : (x : VolumeGrains) → Contains g.volumes x → volume_of g.volumes x.volume.0 ≡ x
  pub there : (x : VolumeGrains) → Contains g.volumes x → x.volume.0 < named → HasDisk x (disk_of ds x.volume.0)
  pub none : (v : ℕ) → (named ≤ v) ⊎ (is_there g.volumes v ≡ false) → disk_of ds v ≡ None
  pub free : (kind : DiskKind) → length (filter (is_free kind) ds) + length (filter (is_known named kind) g.volumes) ≡ of_kind kind g.disks
  pub bytes : (x : VolumeGrains) (y : ℕ) → Contains g.volumes x → x.volume.0 < named → y < length x.contents →
      is_lost_in k.lost x.volume.0 (number_at l y) ≡ false →
      content_at x.contents y ≡ on_disk l (disk_of ds x.volume.0) y

pub record MatchAll (grain : GrainSize) (named : ℕ) (k : Kept) (lanes : List LaneView) (ds : List (List NamedDisk)) : Type 0 where
  pub count : length ds ≡ length lanes
  pub each : (i : ℕ) (d : LaneView) → i < length ds → Matches (lane_over grain ds i) named k (slice_index_or lanes i d).grains (disks_at ds i)

-- ---- by the tables

-- The name of the disk at a place among those that a lane gives back, by the volumes of the tables.
abbrev pub name_of : ℕ → Option Volume → Option VolId
name_of named None = None
name_of named (Some v) = if ltb v.id.0 named then Some v.id else None

abbrev pub name_in : List Volume → ℕ → ℕ → Option VolId
name_in volumes named place = name_of named (slice_get (reverse volumes) place)

-- The lane has the volumes of the tables, in their order.
abbrev pub HasVolumes : List Volume → LaneView → Type 0
HasVolumes volumes lane = map (λ (x : VolumeGrains). x.volume) lane.grains.volumes ≡ map (λ (v : Volume). v.id) volumes

-- So does each lane of a store, and none has more disks than so many.
pub record HaveVolumes (count : ℕ) (s : StoreView) : Type 0 where
  pub volumes : All (HasVolumes s.control.tables.volumes) s.lanes
  pub few : All (λ (v : LaneView). total_of v.grains.disks ≤ count) s.lanes

-- ---- after a step

-- Each volume is there once.
abbrev pub AreOnce : List VolumeGrains → Type 0
AreOnce volumes = (x : VolumeGrains) → Contains volumes x → volume_of volumes x.volume.0 ≡ x

-- The volumes with their kinds and sizes stay, and how many disks of each kind the lane has.
pub record StayHeld (old new : GrainsState) : Type 0 where
  pub kinds : map kind_of_grains new.volumes ≡ map kind_of_grains old.volumes
  pub sizes : (v : ℕ) → length (volume_of new.volumes v).contents ≡ length (volume_of old.volumes v).contents
  pub disks : new.disks ≡ old.disks

-- What isn't lost by metadata any more is what it was, here and there; or the disks have what the lane holds.
abbrev pub GoesAlong : LaneOf → (k_old k_new : Kept) → (old new : GrainsState) → (ds_old ds_new : List NamedDisk) → Type 0
GoesAlong l k_old k_new old new ds_old ds_new =
    (v y : ℕ) → is_lost_in k_new.lost v (number_at l y) ≡ false →
    ((is_lost_in k_old.lost v (number_at l y) ≡ false)
    × (on_disk l (disk_of ds_new v) y ≡ on_disk l (disk_of ds_old v) y) × (stored new.volumes v y ≡ stored old.volumes v y))
    ⊎ (stored new.volumes v y ≡ on_disk l (disk_of ds_new v) y)
