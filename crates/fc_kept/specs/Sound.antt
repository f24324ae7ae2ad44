-- What holds of all that metadata says, and of an image.
use Rattle.std.specs.Prelude.{◌≡◌, ◌⊎◌, ◌-◌, ◌^◌, ◌<◌, false, List, [], length, map, All, Some}
use Rattle.fc_base.specs.Sheet.{Sheet}
use Rattle.fc_base.specs.SheetFits.{FitsTaken, FitsLost}
use Rattle.fc_base.specs.Tables.{Tables, mapping_with}
use Rattle.fc_base.specs.declared.ids.GrainNo.{GrainNo}
use Rattle.fc_base.specs.declared.ids.VolId.{VolId}
use Rattle.fc_base.specs.declared.request.Side.TheVariants.{Now, Under}
use Rattle.fc_base.specs.declared.volume.Mapping.{Mapping}
use Rattle.fc_base.specs.declared.volume.Volume.{Volume}
use Rattle.fc_bits.specs.Words.{IsTidy}
use Rattle.fc_books.specs.Books.{Books}
use Rattle.fc_books.specs.Sound.{AreSound}
use Rattle.fc_changed.specs.Row.{Row}
use Rattle.fc_legal.specs.Stands.{AreRows}
use Rattle.fc_image.specs.declared.record.MetaRecord.{MetaRecord}
use Rattle.fc_image.specs.declared.record.MetaRecord.TheVariants.{Pair, Written, Torn, Changing}
use Rattle.fc_image.specs.declared.image.MetaSlot.{MetaSlot}
use Rattle.fc_image.specs.declared.image.MetaChain.{MetaChain}
use Rattle.fc_image.specs.declared.image.MetaLost.{MetaLost}
use Rattle.fc_image.specs.declared.image.MetaChanges.{MetaChanges}
use Rattle.fc_image.specs.declared.image.MetaImage.{MetaImage}
use Rattle.fc_kept.specs.Kept.{LostGrains, Kept}
use Rattle.fc_kept.specs.Images.{size_in, tables_in, kept_in}

-- The books that metadata has: no background work is noted, no disks are left, and no memory that grains occupy.
abbrev pub books_of : Kept → Books
books_of k =
    record {
      tables = k.tables;
      next_volume = k.next_volume;
      next_mapping = k.next_mapping;
      next_group = k.next_group;
      sheet = k.sheet;
      flags = [];
      pools = [];
      rooms = [];
    }

-- The last trigger that joined a row's volumes went into one of the two.
abbrev pub IsInto : Row → Type 0
IsInto row = (row.into ≡ row.source) ⊎ (row.into ≡ row.target)

-- The volumes of the tables, in their order, each with as many truth values as it has grains.
pub record AreLost (t : Tables) (lost : List LostGrains) : Type 0 where
  pub volumes : map (λ (row : LostGrains). row.volume) lost ≡ map (λ (v : Volume). v.id.0) t.volumes
  pub sizes : All (λ (row : LostGrains). length row.lost ≡ size_in t record { 0 = row.volume }) lost

-- The books are sound, the rows and the lost grains are of their tables, a u32 counts a volume's grains, and there are ids and births
-- left to give.
pub record IsSoundKept (k : Kept) : Type 0 where
  pub books : AreSound (books_of k)
  pub rows : AreRows k.tables k.rows
  pub into : All IsInto k.rows
  pub lost : AreLost k.tables k.lost
  pub grains : All (λ (v : Volume). v.grains < 2 ^ 32) k.tables.volumes
  pub births : k.sheet.births < 2 ^ 63
  pub volume_ids : k.next_volume < 2 ^ 32 - 1
  pub mapping_ids : k.next_mapping < 2 ^ 32 - 1
  pub group_ids : k.next_group < 2 ^ 32 - 1

-- ---- images

-- Words are as many as the volume's grains take, with no bit past the last grain.
abbrev pub HasTidySlots : Tables → MetaChain → Type 0
HasTidySlots t chain = All (λ (slot : MetaSlot). IsTidy (size_in t slot.volume) slot.held) chain.slots

abbrev pub HasTidyLost : Tables → MetaLost → Type 0
HasTidyLost t row = IsTidy (size_in t row.volume) row.lost

pub record HasTidyChanges (t : Tables) (changes : MetaChanges) : Type 0 where
  pub mapping : Mapping
  pub there : mapping_with t changes.map ≡ Some mapping
  pub changed : IsTidy (size_in t mapping.source) changes.changed
  pub kept : IsTidy (size_in t mapping.source) changes.kept

-- What the image says is sound, and its words are tidy.
pub record IsSoundImage (image : MetaImage) : Type 0 where
  pub says : IsSoundKept (kept_in image)
  pub slots : All (HasTidySlots (tables_in image)) image.chains
  pub lost : All (HasTidyLost (tables_in image)) image.lost
  pub changes : All (HasTidyChanges (tables_in image)) image.changes

-- ---- records

abbrev pub volume_of : MetaRecord → VolId
volume_of (Pair slot volume grain in_place empty) = volume
volume_of (Written volume grain) = volume
volume_of (Torn volume grain side) = volume
volume_of (Changing volume grain) = volume

abbrev pub grain_of : MetaRecord → GrainNo
grain_of (Pair slot volume grain in_place empty) = grain
grain_of (Written volume grain) = grain
grain_of (Torn volume grain side) = grain
grain_of (Changing volume grain) = grain

-- A record fits the tables: its grain is one of its volume's.
abbrev pub FitsRecord : Tables → MetaRecord → Type 0
FitsRecord t r = (grain_of r).0 < size_in t (volume_of r)

-- And the chains, as a move, a write and a failed write do.
abbrev pub FitsChains : Sheet → MetaRecord → Type 0
FitsChains s (Pair slot volume grain in_place empty) = in_place ≡ false → FitsTaken s.slots volume.0 grain.0
FitsChains s (Written volume grain) = FitsTaken s.slots volume.0 grain.0
FitsChains s (Torn volume grain Now) = FitsTaken s.slots volume.0 grain.0
FitsChains s (Torn volume grain Under) = FitsLost s.slots volume.0 grain.0
FitsChains s (Changing volume grain) = Unit {0}
