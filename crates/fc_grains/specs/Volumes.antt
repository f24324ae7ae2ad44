-- What the disks of a lane's volumes hold.
use Rattle.std.specs.Prelude.{◌≡◌, ℕ, ◌+◌, ◌-◌, ◌≤◌, Bool, ◌==◌, not, true, cond, List, [], ◌∷◌, length, map, filter, slice_set, Option, Some, None, Result, Ok, Err}
use Rattle.std.specs.List.{list_any}
use Rattle.std.specs.Option.{option_map}
use Rattle.fc_base.specs.Room.{Room}
use Rattle.fc_base.specs.declared.disk.DiskError.{DiskError}
use Rattle.fc_base.specs.declared.disk.DiskError.TheVariants.{Failed, NoMemory}
use Rattle.fc_base.specs.declared.disk.DiskKind.{DiskKind}
use Rattle.fc_base.specs.declared.disk.DiskKind.TheVariants.{Flat}
use Rattle.fc_base.specs.declared.ids.VolId.{VolId}
use Rattle.fc_entry.specs.Picture.{Content, Bytes, Lost, content_at}
use Rattle.fc_mdisk.specs.Disk.{DiskState, grain_at}

-- A volume: the kind of its disk, what each of its grains holds, by place, whether it occupies memory, and the disk's armed
-- fault, where it tells it (how many calls it is away, 0 for none).
pub record VolumeGrains : Type 0 where
  pub volume : VolId
  pub kind : DiskKind
  pub contents : List Content
  pub reached : List Bool
  pub due : Option ℕ

-- Which grains of the volumes occupy memory.
abbrev pub room_of : VolumeGrains → Room
room_of v = record { volume = v.volume; reached = v.reached }

abbrev pub rooms_of : List VolumeGrains → List Room
rooms_of volumes = map room_of volumes

-- Whether the volume with this id is there.
abbrev pub is_there : List VolumeGrains → ℕ → Bool
is_there volumes id = list_any (λ v. v.volume.0 == id) volumes

-- The volume with this id; one that isn't there has no grains.
abbrev pub volume_of : List VolumeGrains → ℕ → VolumeGrains
volume_of [] id = record { volume = record { 0 = id }; kind = Flat; contents = []; reached = []; due = None }
volume_of (v ∷ vs) id = cond (v.volume.0 == id) v (volume_of vs id)

-- What a grain of the volume with this id holds.
abbrev pub stored : List VolumeGrains → ℕ → ℕ → Content
stored volumes id place = content_at (volume_of volumes id).contents place

-- The volumes, when the one with this id changed.
abbrev pub changed : ℕ → (VolumeGrains → VolumeGrains) → List VolumeGrains → List VolumeGrains
changed id change volumes = map (λ v. cond (v.volume.0 == id) (change v) v) volumes

-- The volumes without the one with this id.
abbrev pub without : ℕ → List VolumeGrains → List VolumeGrains
without id volumes = filter (λ v. not (v.volume.0 == id)) volumes

-- A grain holds something else.
abbrev pub holding : ℕ → Content → VolumeGrains → VolumeGrains
holding place content v = record v { contents = slice_set v.contents place content }

-- A write reached a grain: it occupies memory.
abbrev pub reaching : ℕ → VolumeGrains → VolumeGrains
reaching place v = record v { reached = slice_set v.reached place true }

-- A call of the disk: an armed fault comes one call nearer.
abbrev pub called : VolumeGrains → VolumeGrains
called v = record v { due = option_map (λ n. n - 1) v.due }

-- A fault of the disk is armed, where the disk tells this at all.
abbrev pub armed : ℕ → VolumeGrains → VolumeGrains
armed calls v = record v { due = option_map (λ _. calls) v.due }

-- A write of the disk: its grain holds the bytes; where the write failed nothing that can be read; without memory what it held.
abbrev pub after_write : {A : Type 0} → Result A DiskError → ℕ → List ℕ → VolumeGrains → VolumeGrains
after_write (Ok _) place bytes v = reaching place (holding place (Bytes bytes) (called v))
after_write (Err Failed) place bytes v = reaching place (holding place Lost (called v))
after_write (Err NoMemory) place bytes v = called v

-- ---- armed faults

-- An armed fault comes nearer, by at most so many calls. Where none was armed none is.
abbrev pub ComesNearer : ℕ → Option ℕ → Option ℕ → Type 0
ComesNearer calls None None = Unit {0}
ComesNearer calls (Some was) (Some now) = (now ≤ was) × (was ≤ now + calls)
ComesNearer calls _ _ = ⊥

-- Of the disk of each volume. So no fault is armed.
abbrev pub ComeNearer : ℕ → List VolumeGrains → List VolumeGrains → Type 0
ComeNearer calls old new = (id : ℕ) → ComesNearer calls (volume_of old id).due (volume_of new id).due

-- ---- disks that hold what volumes hold

-- So many grains, the bytes of each that isn't lost, and the armed fault.
pub record HoldsGrains (v : VolumeGrains) (disk : DiskState) : Type 0 where
  pub kind : disk.kind ≡ v.kind
  pub armed : disk.due ≡ v.due
  pub size : length disk.grains ≡ length v.contents
  pub bytes : (place : ℕ) (bytes : List ℕ) → content_at v.contents place ≡ Bytes bytes → grain_at disk.grains place ≡ bytes

-- Each of the disks holds what the volume at its place holds.
abbrev pub HoldAll : List VolumeGrains → List DiskState → Type 0
HoldAll [] [] = Unit {0}
HoldAll (v ∷ vs) (disk ∷ disks) = HoldsGrains v disk × HoldAll vs disks
HoldAll _ _ = ⊥

abbrev pub HoldsNothing : DiskState → Type 0
HoldsNothing disk = disk.grains ≡ []
