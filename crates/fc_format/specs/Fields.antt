-- The readers of the parts of an image, each its writer's steps in the same order.
use Rattle.std.specs.Prelude.{ℕ, Bool, true, false, ◌==◌, if◌then◌else◌, List, length, Option, Some, None, option_map}
use Rattle.fc_base.specs.declared.disk.DiskKind.{DiskKind}
use Rattle.fc_base.specs.declared.disk.DiskKind.TheVariants.{Flat, Thin}
use Rattle.fc_base.specs.declared.state.MapState.{MapState}
use Rattle.fc_base.specs.declared.state.MapState.TheVariants.{Empty, IdleOrCopied, Preparing, Prepared, Copying, Stopping, Stopped}
use Rattle.fc_base.specs.declared.request.Side.{Side}
use Rattle.fc_base.specs.declared.request.Side.TheVariants.{Now, Under}
use Rattle.fc_base.specs.declared.ids.VolId.{VolId}
use Rattle.fc_base.specs.declared.ids.MapId.{MapId}
use Rattle.fc_base.specs.declared.ids.GroupId.{GroupId}
use Rattle.fc_base.specs.declared.volume.Volume.{Volume}
use Rattle.fc_base.specs.declared.volume.Mapping.{Mapping}
use Rattle.fc_base.specs.declared.volume.Group.{Group}
use Rattle.fc_image.specs.declared.record.MetaRecord.{MetaRecord}
use Rattle.fc_image.specs.declared.record.MetaRecord.TheVariants.{Pair, Written, Torn, Changing}
use Rattle.fc_image.specs.declared.image.MetaSlot.{MetaSlot}
use Rattle.fc_image.specs.declared.image.MetaChain.{MetaChain}
use Rattle.fc_image.specs.declared.image.MetaLost.{MetaLost}
use Rattle.fc_image.specs.declared.image.MetaChanges.{MetaChanges}
use Rattle.fc_image.specs.declared.image.MetaImage.{MetaImage}
use Rattle.fc_format.specs.declared.records.RecordKind.{RecordKind}
use Rattle.fc_format.specs.declared.records.RecordKind.TheVariants.{Pair as OfPair, Written as OfWritten, Torn as OfTorn, Changing as OfChanging}
use Rattle.fc_format.specs.Bytes.{no_id}
use Rattle.fc_format.specs.Reading.{Got, Reader, ◌>>=◌, number, choice, name, list, all_items}

-- ---- Single fields

abbrev pub flag_of : ℕ → Option Bool
flag_of n = if n == 0 then Some false else if n == 1 then Some true else None

abbrev pub kind_of : ℕ → Option DiskKind
kind_of n = if n == 0 then Some Flat else if n == 1 then Some Thin else None

abbrev pub side_of : ℕ → Option Side
side_of n = if n == 0 then Some Now else if n == 1 then Some Under else None

abbrev pub state_of : ℕ → Option MapState
state_of n =
    if n == 0 then Some Empty else if n == 1 then Some IdleOrCopied else if n == 2 then Some Preparing else if n == 3 then Some Prepared
    else if n == 4 then Some Copying else if n == 5 then Some Stopping else if n == 6 then Some Stopped else None

unfoldable pub flag : Reader Bool
flag = choice flag_of

unfoldable pub kind : Reader DiskKind
kind = choice kind_of

unfoldable pub side : Reader Side
side = choice side_of

unfoldable pub state : Reader MapState
state = choice state_of

unfoldable pub byte_value : Reader ℕ
byte_value = choice (λ n. Some n)

abbrev pub id_of : ℕ → Option ℕ
id_of n = if n == no_id then None else Some n

abbrev pub volume_id : Option ℕ → Option VolId
volume_id n = option_map (λ n. record { 0 = n }) n

abbrev pub mapping_id : Option ℕ → Option MapId
mapping_id n = option_map (λ n. record { 0 = n }) n

abbrev pub group_id : Option ℕ → Option GroupId
group_id n = option_map (λ n. record { 0 = n }) n

-- an id that may be absent
unfoldable pub optional : {A : Type 0} → (Option ℕ → A) → Reader A
optional id = number 4 >>= (λ n. Got (id (id_of n)))

unfoldable pub words : Reader (List ℕ)
words = list (number 8)

-- ---- The tables

unfoldable pub volume : Reader Volume
volume = do
  id ← number 4
  text ← name
  grains ← number 4
  kind ← kind
  Got (record { id = record { 0 = id }; name = text; grains = grains; kind = kind })

unfoldable pub mapping : Reader Mapping
mapping = do
  id ← number 4
  text ← name
  source ← number 4
  target ← number 4
  group ← optional group_id
  state ← state
  copy_rate ← byte_value
  clean_rate ← byte_value
  incremental ← flag
  autodelete ← flag
  restoring ← flag
  held_at_leave ← number 4
  complete ← flag
  Got (record {
    id = record { 0 = id };
    name = text;
    source = record { 0 = source };
    target = record { 0 = target };
    group = group;
    state = state;
    copy_rate = copy_rate;
    clean_rate = clean_rate;
    incremental = incremental;
    autodelete = autodelete;
    restoring = restoring;
    held_at_leave = held_at_leave;
    complete = complete;
  })

unfoldable pub group : Reader Group
group = do
  id ← number 4
  text ← name
  Got (record { id = record { 0 = id }; name = text })

-- ---- Chains, lost grains, changes

unfoldable pub slot : Reader MetaSlot
slot = do
  birth ← number 8
  volume ← number 4
  live ← flag
  map ← optional mapping_id
  held ← words
  Got (record { birth = record { 0 = birth }; volume = record { 0 = volume }; live = live; map = map; held = held })

unfoldable pub chain : Reader MetaChain
chain = do
  label ← number 8
  slots ← list slot
  Got (record { label = label; slots = slots })

unfoldable pub lost : Reader MetaLost
lost = do
  volume ← number 4
  lost ← words
  Got (record { volume = record { 0 = volume }; lost = lost })

unfoldable pub changes : Reader MetaChanges
changes = do
  map ← number 4
  last_source ← optional volume_id
  last_target ← optional volume_id
  changed ← words
  kept ← words
  Got (record { map = record { 0 = map }; last_source = last_source; last_target = last_target; changed = changed; kept = kept })

-- ---- The image

unfoldable pub image : Reader MetaImage
image = do
  next_birth ← number 8
  next_volume ← number 4
  next_map ← number 4
  next_group ← number 4
  volumes ← list volume
  mappings ← list mapping
  groups ← list group
  chains ← list chain
  lost ← list lost
  changes ← list changes
  Got (record {
    next_birth = next_birth;
    next_volume = next_volume;
    next_map = next_map;
    next_group = next_group;
    volumes = volumes;
    mappings = mappings;
    groups = groups;
    chains = chains;
    lost = lost;
    changes = changes;
  })

-- ---- Records

abbrev pub record_code : RecordKind → ℕ
record_code OfPair = 1
record_code OfWritten = 2
record_code OfTorn = 3
record_code OfChanging = 4

abbrev pub record_kind_of : ℕ → Option RecordKind
record_kind_of n =
    if n == 1 then Some OfPair else if n == 2 then Some OfWritten else if n == 3 then Some OfTorn else if n == 4 then Some OfChanging else None

unfoldable pub pair : Reader MetaRecord
pair = do
  slot ← number 8
  volume ← number 4
  grain ← number 4
  in_place ← flag
  empty ← flag
  Got (Pair (record { 0 = slot }) (record { 0 = volume }) (record { 0 = grain }) in_place empty)

unfoldable pub written : Reader MetaRecord
written = do
  volume ← number 4
  grain ← number 4
  Got (Written (record { 0 = volume }) (record { 0 = grain }))

unfoldable pub torn : Reader MetaRecord
torn = do
  volume ← number 4
  grain ← number 4
  side ← side
  Got (Torn (record { 0 = volume }) (record { 0 = grain }) side)

unfoldable pub changing : Reader MetaRecord
changing = do
  volume ← number 4
  grain ← number 4
  Got (Changing (record { 0 = volume }) (record { 0 = grain }))

abbrev pub record_of : RecordKind → Reader MetaRecord
record_of OfPair = pair
record_of OfWritten = written
record_of OfTorn = torn
record_of OfChanging = changing

unfoldable pub one_record : Reader MetaRecord
one_record = choice record_kind_of >>= record_of

-- the records of a batch, until its bytes end
unfoldable pub records : Reader (List MetaRecord)
records s = all_items one_record (length s.bytes) s
