-- What is written: each field of an image as bytes, numbers highest byte first.
use Rattle.std.specs.Prelude.{ℕ, ◌-◌, ◌^◌, Bool, if◌then◌else◌, List, [], ◌∷◌, ◌++◌, length, Option, Some, None}
use Rattle.std.specs.List.{flat_map}
use Rattle.byteorder.specs.Endian.{big_bytes}
use Rattle.fc_base.specs.declared.disk.DiskKind.{DiskKind}
use Rattle.fc_base.specs.declared.disk.DiskKind.TheVariants.{Flat, Thin}
use Rattle.fc_base.specs.declared.state.MapState.{MapState}
use Rattle.fc_base.specs.declared.state.MapState.TheVariants.{Empty, IdleOrCopied, Preparing, Prepared, Copying, Stopping, Stopped}
use Rattle.fc_base.specs.declared.request.Side.{Side}
use Rattle.fc_base.specs.declared.request.Side.TheVariants.{Now, Under}
use Rattle.fc_base.specs.declared.ids.VolId.{VolId}
use Rattle.fc_base.specs.declared.ids.MapId.{MapId}
use Rattle.fc_base.specs.declared.ids.GroupId.{GroupId}
use Rattle.fc_base.specs.declared.volume.Volume.{Volume}
use Rattle.fc_base.specs.declared.volume.Mapping.{Mapping}
use Rattle.fc_base.specs.declared.volume.Group.{Group}
use Rattle.fc_image.specs.declared.record.MetaRecord.{MetaRecord}
use Rattle.fc_image.specs.declared.record.MetaRecord.TheVariants.{Pair, Written, Torn, Changing}
use Rattle.fc_image.specs.declared.image.MetaSlot.{MetaSlot}
use Rattle.fc_image.specs.declared.image.MetaChain.{MetaChain}
use Rattle.fc_image.specs.declared.image.MetaLost.{MetaLost}
use Rattle.fc_image.specs.declared.image.MetaChanges.{MetaChanges}
use Rattle.fc_image.specs.declared.image.MetaImage.{MetaImage}

-- ---- Single fields

abbrev pub byte : ℕ → List ℕ
byte n = n ∷ []

abbrev pub flag_code : Bool → ℕ
flag_code b = if b then 1 else 0

abbrev pub kind_code : DiskKind → ℕ
kind_code Flat = 0
kind_code Thin = 1

abbrev pub side_code : Side → ℕ
side_code Now = 0
side_code Under = 1

abbrev pub state_code : MapState → ℕ
state_code Empty = 0
state_code IdleOrCopied = 1
state_code Preparing = 2
state_code Prepared = 3
state_code Copying = 4
state_code Stopping = 5
state_code Stopped = 6

-- an id that may be absent: absent, it is the greatest of its four bytes
abbrev pub no_id : ℕ
no_id = 2 ^ 32 - 1

abbrev pub id_code : {I : Type 0} → (I → ℕ) → Option I → ℕ
id_code number (Some id) = number id
id_code number None = no_id

abbrev pub volume_code : Option VolId → ℕ
volume_code id = id_code (λ v. v.0) id

abbrev pub mapping_code : Option MapId → ℕ
mapping_code id = id_code (λ m. m.0) id

abbrev pub group_code : Option GroupId → ℕ
group_code id = id_code (λ g. g.0) id

-- a name has its length before it
unfoldable pub name_bytes : List ℕ → List ℕ
name_bytes name = length name ∷ name

-- a list has its count before it
unfoldable pub list_bytes : {A : Type 0} → (A → List ℕ) → List A → List ℕ
list_bytes f xs = big_bytes 4 (length xs) ++ flat_map f xs

unfoldable pub words_bytes : List ℕ → List ℕ
words_bytes words = list_bytes (big_bytes 8) words

-- ---- The tables

unfoldable pub volume_bytes : Volume → List ℕ
volume_bytes v = big_bytes 4 v.id.0 ++ (name_bytes v.name ++ (big_bytes 4 v.grains ++ byte (kind_code v.kind)))

unfoldable pub mapping_bytes : Mapping → List ℕ
mapping_bytes m =
    big_bytes 4 m.id.0 ++ (name_bytes m.name ++ (big_bytes 4 m.source.0 ++ (big_bytes 4 m.target.0 ++ (big_bytes 4 (group_code m.group)
    ++ (byte (state_code m.state) ++ (byte m.copy_rate ++ (byte m.clean_rate ++ (byte (flag_code m.incremental) ++ (byte (flag_code m.autodelete)
    ++ (byte (flag_code m.restoring) ++ (big_bytes 4 m.held_at_leave ++ byte (flag_code m.complete))))))))))))

unfoldable pub group_bytes : Group → List ℕ
group_bytes g = big_bytes 4 g.id.0 ++ name_bytes g.name

-- ---- Chains, lost grains, changes

unfoldable pub slot_bytes : MetaSlot → List ℕ
slot_bytes s =
    big_bytes 8 s.birth.0 ++ (big_bytes 4 s.volume.0 ++ (byte (flag_code s.live) ++ (big_bytes 4 (mapping_code s.map) ++ words_bytes s.held)))

unfoldable pub chain_bytes : MetaChain → List ℕ
chain_bytes c = big_bytes 8 c.label ++ list_bytes slot_bytes c.slots

unfoldable pub lost_bytes : MetaLost → List ℕ
lost_bytes l = big_bytes 4 l.volume.0 ++ words_bytes l.lost

unfoldable pub changes_bytes : MetaChanges → List ℕ
changes_bytes c =
    big_bytes 4 c.map.0 ++ (big_bytes 4 (volume_code c.last_source) ++ (big_bytes 4 (volume_code c.last_target)
    ++ (words_bytes c.changed ++ words_bytes c.kept)))

-- ---- The image

unfoldable pub image_bytes : MetaImage → List ℕ
image_bytes i =
    big_bytes 8 i.next_birth ++ (big_bytes 4 i.next_volume ++ (big_bytes 4 i.next_map ++ (big_bytes 4 i.next_group
    ++ (list_bytes volume_bytes i.volumes ++ (list_bytes mapping_bytes i.mappings ++ (list_bytes group_bytes i.groups
    ++ (list_bytes chain_bytes i.chains ++ (list_bytes lost_bytes i.lost ++ list_bytes changes_bytes i.changes))))))))

-- ---- Records

unfoldable pub record_bytes : MetaRecord → List ℕ
record_bytes (Pair slot volume grain in_place empty) =
    byte 1 ++ (big_bytes 8 slot.0 ++ (big_bytes 4 volume.0 ++ (big_bytes 4 grain.0 ++ (byte (flag_code in_place) ++ byte (flag_code empty)))))
record_bytes (Written volume grain) = byte 2 ++ (big_bytes 4 volume.0 ++ big_bytes 4 grain.0)
record_bytes (Torn volume grain side) = byte 3 ++ (big_bytes 4 volume.0 ++ (big_bytes 4 grain.0 ++ byte (side_code side)))
record_bytes (Changing volume grain) = byte 4 ++ (big_bytes 4 volume.0 ++ big_bytes 4 grain.0)

abbrev pub records_bytes : List MetaRecord → List ℕ
records_bytes rs = flat_map record_bytes rs

-- ---- On the disk

-- an image behind the gate of its half: generation, length, image, and the closed gate of the first batch
unfoldable pub half_bytes : ℕ → MetaImage → List ℕ
half_bytes generation image = big_bytes 8 generation ++ (big_bytes 4 (length (image_bytes image)) ++ (image_bytes image ++ byte 0))

-- a batch behind its gate: length, records, and the closed gate of the next one
unfoldable pub batch_bytes : List MetaRecord → List ℕ
batch_bytes rs = big_bytes 4 (length (records_bytes rs)) ++ (records_bytes rs ++ byte 0)
