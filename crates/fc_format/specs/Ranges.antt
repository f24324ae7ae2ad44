-- Which values stand on a disk: numbers that fit their bytes, and lists that fit their counts.
use Rattle.std.specs.Prelude.{ℕ, ◌<◌, ◌^◌, List, All, IsTrue, Option, Some, None, ⊤}
use Rattle.fc_base.specs.Names.{is_name}
use Rattle.fc_base.specs.declared.ids.VolId.{VolId}
use Rattle.fc_base.specs.declared.ids.MapId.{MapId}
use Rattle.fc_base.specs.declared.ids.GroupId.{GroupId}
use Rattle.fc_base.specs.declared.volume.Volume.{Volume}
use Rattle.fc_base.specs.declared.volume.Mapping.{Mapping}
use Rattle.fc_base.specs.declared.volume.Group.{Group}
use Rattle.fc_image.specs.declared.record.MetaRecord.{MetaRecord}
use Rattle.fc_image.specs.declared.record.MetaRecord.TheVariants.{Pair, Written, Torn, Changing}
use Rattle.fc_image.specs.declared.image.MetaSlot.{MetaSlot}
use Rattle.fc_image.specs.declared.image.MetaChain.{MetaChain}
use Rattle.fc_image.specs.declared.image.MetaLost.{MetaLost}
use Rattle.fc_image.specs.declared.image.MetaChanges.{MetaChanges}
use Rattle.fc_image.specs.declared.image.MetaImage.{MetaImage}
use Rattle.fc_format.specs.Bytes.{no_id, volume_code, mapping_code, group_code}

-- ---- What the types say: each number is one of its type

abbrev pub IsWord : ℕ → Type 0
IsWord n = n < 2 ^ 64

abbrev pub AreWords : List ℕ → Type 0
AreWords words = All (λ n. n < 2 ^ 64) words

pub record IsTypedVolume (v : Volume) : Type 0 where
  pub id : v.id.0 < 2 ^ 32
  pub name : IsTrue (is_name v.name)
  pub grains : v.grains < 2 ^ 32

pub record IsTypedMapping (m : Mapping) : Type 0 where
  pub id : m.id.0 < 2 ^ 32
  pub name : IsTrue (is_name m.name)
  pub source : m.source.0 < 2 ^ 32
  pub target : m.target.0 < 2 ^ 32
  pub group : group_code m.group < 2 ^ 32
  pub held_at_leave : m.held_at_leave < 2 ^ 32

pub record IsTypedGroup (g : Group) : Type 0 where
  pub id : g.id.0 < 2 ^ 32
  pub name : IsTrue (is_name g.name)

pub record IsTypedSlot (s : MetaSlot) : Type 0 where
  pub birth : s.birth.0 < 2 ^ 64
  pub volume : s.volume.0 < 2 ^ 32
  pub map : mapping_code s.map < 2 ^ 32
  pub held : AreWords s.held

pub record IsTypedChain (c : MetaChain) : Type 0 where
  pub label : c.label < 2 ^ 64
  pub slots : All IsTypedSlot c.slots

pub record IsTypedLost (l : MetaLost) : Type 0 where
  pub volume : l.volume.0 < 2 ^ 32
  pub lost : AreWords l.lost

pub record IsTypedChanges (c : MetaChanges) : Type 0 where
  pub map : c.map.0 < 2 ^ 32
  pub last_source : volume_code c.last_source < 2 ^ 32
  pub last_target : volume_code c.last_target < 2 ^ 32
  pub changed : AreWords c.changed
  pub kept : AreWords c.kept

pub record IsTypedImage (i : MetaImage) : Type 0 where
  pub next_birth : i.next_birth < 2 ^ 64
  pub next_volume : i.next_volume < 2 ^ 32
  pub next_map : i.next_map < 2 ^ 32
  pub next_group : i.next_group < 2 ^ 32
  pub volumes : All IsTypedVolume i.volumes
  pub mappings : All IsTypedMapping i.mappings
  pub groups : All IsTypedGroup i.groups
  pub chains : All IsTypedChain i.chains
  pub lost : All IsTypedLost i.lost
  pub changes : All IsTypedChanges i.changes

abbrev pub IsTypedRecord : MetaRecord → Type 0
IsTypedRecord (Pair slot volume grain in_place empty) = (slot.0 < 2 ^ 64) × (volume.0 < 2 ^ 32) × (grain.0 < 2 ^ 32)
IsTypedRecord (Written volume grain) = (volume.0 < 2 ^ 32) × (grain.0 < 2 ^ 32)
IsTypedRecord (Torn volume grain side) = (volume.0 < 2 ^ 32) × (grain.0 < 2 ^ 32)
IsTypedRecord (Changing volume grain) = (volume.0 < 2 ^ 32) × (grain.0 < 2 ^ 32)

-- ---- What is asked of an image: the number that stands for an absent id is no id

abbrev pub IsIdCode : {I : Type 0} → (I → ℕ) → Option I → Type 0
IsIdCode number (Some id) = number id < no_id
IsIdCode number None = ⊤

abbrev pub IsVolumeId : Option VolId → Type 0
IsVolumeId id = IsIdCode (λ v. v.0) id

abbrev pub IsMappingId : Option MapId → Type 0
IsMappingId id = IsIdCode (λ m. m.0) id

abbrev pub IsGroupId : Option GroupId → Type 0
IsGroupId id = IsIdCode (λ g. g.0) id

-- each id that may be absent is below the number that stands for an absent one
pub record HasGoodIds (i : MetaImage) : Type 0 where
  pub groups : All (λ m. IsGroupId m.group) i.mappings
  pub slots : All (λ c. All (λ s. IsMappingId s.map) c.slots) i.chains
  pub sources : All (λ c. IsVolumeId c.last_source) i.changes
  pub targets : All (λ c. IsVolumeId c.last_target) i.changes
