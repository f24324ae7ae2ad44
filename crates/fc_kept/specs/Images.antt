-- What an image says, and the image that says it.
use Rattle.std.specs.Prelude.{ℕ, suc, Bool, true, not, ◌==◌, if◌then◌else◌, List, [], ◌∷◌, Option, Some, None, option_map, length, map, replicate}
use Rattle.std.specs.List.{flat_map}
use Rattle.fc_base.specs.Sheet.{Slot}
use Rattle.fc_base.specs.Tables.{Tables, volume_with, mapping_with}
use Rattle.fc_base.specs.declared.ids.MapId.{MapId}
use Rattle.fc_base.specs.declared.ids.VolId.{VolId}
use Rattle.fc_base.specs.declared.volume.Mapping.{Mapping}
use Rattle.fc_base.specs.declared.volume.Volume.{Volume}
use Rattle.fc_bits.specs.Grains.{difference}
use Rattle.fc_bits.specs.Words.{grains_of, words_for}
use Rattle.fc_changed.specs.Row.{Row}
use Rattle.fc_image.specs.Words.{bit_put}
use Rattle.fc_image.specs.declared.image.MetaSlot.{MetaSlot}
use Rattle.fc_image.specs.declared.image.MetaChain.{MetaChain}
use Rattle.fc_image.specs.declared.image.MetaLost.{MetaLost}
use Rattle.fc_image.specs.declared.image.MetaChanges.{MetaChanges}
use Rattle.fc_image.specs.declared.image.MetaImage.{MetaImage}
use Rattle.fc_kept.specs.Kept.{LostGrains, Kept}

-- ---- sizes

-- How many grains the volume with this id has by the tables; of one that isn't there, none.
abbrev pub grains_told : Option Volume → ℕ
grains_told None = 0
grains_told (Some v) = v.grains

abbrev pub size_in : Tables → VolId → ℕ
size_in t id = grains_told (volume_with t id)

-- ---- what an image says

abbrev pub tables_in : MetaImage → Tables
tables_in image = record { volumes = image.volumes; mappings = image.mappings; groups = image.groups }

-- A slot of the chain with this label; it holds what its words have of the volume's grains.
abbrev pub slot_in : Tables → ℕ → MetaSlot → Slot
slot_in t label slot =
    record {
      birth = slot.birth.0;
      chain = label;
      volume = slot.volume.0;
      is_live = slot.live;
      mapping = option_map (λ (m : MapId). m.0) slot.map;
      held = grains_of (size_in t slot.volume) slot.held;
    }

abbrev pub slots_in : Tables → MetaChain → List Slot
slots_in t chain = map (slot_in t chain.label) chain.slots

-- The row of a mapping: its volumes are those of the mapping; both are the same at the grains that were kept track of and didn't
-- change.
abbrev pub id_in : Option VolId → ℕ
id_in None = 0
id_in (Some id) = id.0

abbrev pub row_of : Tables → MetaChanges → Option Mapping → Row
row_of t changes None = record { map = changes.map.0; source = 0; target = 0; into = id_in changes.last_target; same = [] }
row_of t changes (Some m) =
    record {
      map = changes.map.0;
      source = m.source.0;
      target = m.target.0;
      into = id_in changes.last_target;
      same = difference (grains_of (size_in t m.source) changes.kept) (grains_of (size_in t m.source) changes.changed);
    }

abbrev pub row_in : Tables → MetaChanges → Row
row_in t changes = row_of t changes (mapping_with t changes.map)

abbrev pub lost_in : Tables → MetaLost → LostGrains
lost_in t row = record { volume = row.volume.0; lost = grains_of (size_in t row.volume) row.lost }

abbrev pub kept_in : MetaImage → Kept
kept_in image =
    record {
      tables = tables_in image;
      next_volume = image.next_volume;
      next_mapping = image.next_map;
      next_group = image.next_group;
      sheet = record { births = image.next_birth; slots = flat_map (slots_in (tables_in image)) image.chains };
      rows = map (row_in (tables_in image)) image.changes;
      lost = map (lost_in (tables_in image)) image.lost;
    }

-- ---- the image that says it

-- The words with these grains: their bits put one after the other, from a grain on.
abbrev pub words_from : List Bool → ℕ → List ℕ → List ℕ
words_from [] g words = words
words_from (b ∷ bs) g words = words_from bs (suc g) (bit_put words g b)

abbrev pub words_with : List Bool → List ℕ
words_with grains = words_from grains 0 (replicate (words_for (length grains)) 0)

abbrev pub slot_told : Slot → MetaSlot
slot_told slot =
    record {
      birth = record { 0 = slot.birth };
      volume = record { 0 = slot.volume };
      live = slot.is_live;
      map = option_map (λ m. record { 0 = m }) slot.mapping;
      held = words_with slot.held;
    }

-- Slots that stand side by side with one label are a chain.
abbrev pub alone_told : Slot → MetaChain
alone_told slot = record { label = slot.chain; slots = slot_told slot ∷ [] }

abbrev pub before_chains : Slot → List MetaChain → List MetaChain
before_chains slot [] = alone_told slot ∷ []
before_chains slot (chain ∷ chains) =
    if chain.label == slot.chain then record chain { slots = slot_told slot ∷ chain.slots } ∷ chains
    else alone_told slot ∷ chain ∷ chains

abbrev pub chains_told : List Slot → List MetaChain
chains_told [] = []
chains_told (slot ∷ slots) = before_chains slot (chains_told slots)

-- All grains are kept track of, and those changed where both volumes may differ. The last source is the row's volume that isn't
-- the last target.
abbrev pub changes_told : Row → MetaChanges
changes_told row =
    record {
      map = record { 0 = row.map };
      last_source = Some record { 0 = if row.into == row.target then row.source else row.target };
      last_target = Some record { 0 = row.into };
      changed = words_with (map not row.same);
      kept = words_with (replicate (length row.same) true);
    }

abbrev pub lost_told : LostGrains → MetaLost
lost_told row = record { volume = record { 0 = row.volume }; lost = words_with row.lost }

abbrev pub meta_of : Kept → MetaImage
meta_of k =
    record {
      next_birth = k.sheet.births;
      next_volume = k.next_volume;
      next_map = k.next_mapping;
      next_group = k.next_group;
      volumes = k.tables.volumes;
      mappings = k.tables.mappings;
      groups = k.tables.groups;
      chains = chains_told k.sheet.slots;
      lost = map lost_told k.lost;
      changes = map changes_told k.rows;
    }
