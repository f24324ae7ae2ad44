-- That the chains and the stored grains of a lane show what plain volumes hold.
use Rattle.std.specs.Prelude.{◌≡◌, ℕ, ◌<◌, true, List, length, map}
use Rattle.fc_base.specs.Sheet.{Slot, Sheet, slot_at}
use Rattle.fc_base.specs.SheetFacts.{IsSound}
use Rattle.fc_entry.specs.Picture.{Picture}
use Rattle.fc_grains.specs.Volumes.{VolumeGrains, is_there, volume_of, stored}
use Rattle.fc_rules.specs.Shows.{Shows}
use Rattle.fc_base.specs.declared.disk.DiskKind.{DiskKind}
use Rattle.fc_base.specs.declared.ids.VolId.{VolId}
use Rattle.fc_base.specs.declared.size.GrainSize.{GrainSize}
use Rattle.fc_rules.specs.LaneTold.{LaneOf, LaneVolume}

-- A lane, of so many, with grains of this size.
abbrev pub lane_of : ℕ → ℕ → GrainSize → LaneOf
lane_of lane lanes grain = record { lane = lane; lanes = lanes; grain = grain }

-- The id of a volume, and the kind of its disk.
pub record VolumeKind : Type 0 where
  pub volume : VolId
  pub kind : DiskKind

abbrev pub kind_of_grains : VolumeGrains → VolumeKind
kind_of_grains v = record { volume = v.volume; kind = v.kind }

abbrev pub kind_of_told : LaneVolume → VolumeKind
kind_of_told v = record { volume = v.volume; kind = v.kind }

-- The grains have the volumes that are told, on disks of their kinds.
abbrev pub SameVolumes : List VolumeGrains → List LaneVolume → Type 0
SameVolumes grains volumes = map kind_of_grains grains ≡ map kind_of_told volumes

-- The volume of each slot is there, with a grain for each of the slot's.
pub record HasGrains (slots : List Slot) (volumes : List VolumeGrains) (k : ℕ) : Type 0 where
  pub there : is_there volumes (slot_at slots k).volume ≡ true
  pub size : length (volume_of volumes (slot_at slots k).volume).contents ≡ length (slot_at slots k).held

abbrev pub AllSized : Sheet → List VolumeGrains → Type 0
AllSized s volumes = (k : ℕ) → k < length s.slots → HasGrains s.slots volumes k

pub record Stands (s : Sheet) (picture : Picture) (volumes : List VolumeGrains) : Type 0 where
  pub sound : IsSound s
  pub sized : (k : ℕ) → k < length s.slots → HasGrains s.slots volumes k
  pub shows : Shows s.slots picture (stored volumes)
