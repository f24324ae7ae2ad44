-- What each record makes of an image. A record that names what isn't there changes nothing.
use Rattle.std.specs.Prelude.{ℕ, Bool, true, false, not, ◌&&◌, ◌||◌, ◌==◌, if◌then◌else◌, List, map}
use Rattle.std.specs.List.{list_any, fold}
use Rattle.fc_base.specs.declared.ids.VolId.{VolId}
use Rattle.fc_base.specs.declared.ids.MapId.{MapId}
use Rattle.fc_base.specs.declared.volume.Mapping.{Mapping}
use Rattle.fc_base.specs.declared.request.Side.{Side}
use Rattle.fc_base.specs.declared.request.Side.TheVariants.{Now, Under}
use Rattle.fc_image.specs.declared.record.MetaRecord.{MetaRecord}
use Rattle.fc_image.specs.declared.record.MetaRecord.TheVariants.{Pair, Written, Torn, Changing}
use Rattle.fc_image.specs.declared.image.MetaSlot.{MetaSlot}
use Rattle.fc_image.specs.declared.image.MetaChain.{MetaChain}
use Rattle.fc_image.specs.declared.image.MetaLost.{MetaLost}
use Rattle.fc_image.specs.declared.image.MetaChanges.{MetaChanges}
use Rattle.fc_image.specs.declared.image.MetaImage.{MetaImage}
use Rattle.fc_image.specs.Words.{with_bit, bit_put}

-- ---- What a slot holds

abbrev pub is_now : Side → Bool
is_now Now = true
is_now Under = false

-- A move or a write leaves the grain in the live slot of its volume, and takes it from the older ones; a move in place takes it
-- from none. A failed write takes it from the older slots, and leaves it in the live one where it was what the volume shows.
abbrev pub held_after : VolId → Bool → List ℕ → MetaRecord → List ℕ
held_after v live held (Pair slot volume grain in_place empty) =
    if (volume.0 == v.0) && (live || not in_place) then bit_put held grain.0 live else held
held_after v live held (Written volume grain) = if volume.0 == v.0 then bit_put held grain.0 live else held
held_after v live held (Torn volume grain side) =
    if (volume.0 == v.0) && (not live || is_now side) then bit_put held grain.0 live else held
held_after v live held (Changing volume grain) = held

abbrev pub slot_after : MetaSlot → MetaRecord → MetaSlot
slot_after slot r = record slot { held = held_after slot.volume slot.live slot.held r }

abbrev pub chain_after : MetaChain → MetaRecord → MetaChain
chain_after chain r = record chain { slots = map (λ slot. slot_after slot r) chain.slots }

-- ---- What is lost

-- A move leaves the grain lost exactly where it was lost where it came from; one in place leaves it as it was. A write leaves it
-- whole, a failed one lost.
abbrev pub lost_after : VolId → List ℕ → MetaRecord → List ℕ
lost_after v lost (Pair slot volume grain in_place empty) =
    if (volume.0 == v.0) && not in_place then bit_put lost grain.0 empty else lost
lost_after v lost (Written volume grain) = if volume.0 == v.0 then bit_put lost grain.0 false else lost
lost_after v lost (Torn volume grain side) = if volume.0 == v.0 then bit_put lost grain.0 true else lost
lost_after v lost (Changing volume grain) = lost

abbrev pub row_after : MetaLost → MetaRecord → MetaLost
row_after row r = record row { lost = lost_after row.volume row.lost r }

-- ---- What changed

-- the mapping with this id has the volume for its source or its target
abbrev pub names_volume : List Mapping → MapId → VolId → Bool
names_volume mappings id v = list_any (λ m. (m.id.0 == id.0) && ((m.source.0 == v.0) || (m.target.0 == v.0))) mappings

-- the grain counts as changed where the mapping names its volume
abbrev pub changed_there : List Mapping → MapId → List ℕ → VolId → ℕ → List ℕ
changed_there mappings id changed v grain = if names_volume mappings id v then with_bit changed grain else changed

-- A write, done or about to begin, changes what the volume shows, and so does a failed one that spoils it.
abbrev pub changed_after : List Mapping → MapId → List ℕ → MetaRecord → List ℕ
changed_after mappings id changed (Pair slot volume grain in_place empty) = changed
changed_after mappings id changed (Written volume grain) = changed_there mappings id changed volume grain.0
changed_after mappings id changed (Torn volume grain Now) = changed_there mappings id changed volume grain.0
changed_after mappings id changed (Torn volume grain Under) = changed
changed_after mappings id changed (Changing volume grain) = changed_there mappings id changed volume grain.0

abbrev pub changes_after : List Mapping → MetaChanges → MetaRecord → MetaChanges
changes_after mappings row r = record row { changed = changed_after mappings row.map row.changed r }

-- ---- The image

unfoldable pub after_record : MetaImage → MetaRecord → MetaImage
after_record image r = record image {
  chains = map (λ chain. chain_after chain r) image.chains;
  lost = map (λ row. row_after row r) image.lost;
  changes = map (λ row. changes_after image.mappings row r) image.changes;
}

-- all records, the first of them first
abbrev pub after_records : MetaImage → List MetaRecord → MetaImage
after_records image rs = fold after_record image rs
