-- The directory of slots: by birth, by mapping and by volume; and how many volumes there are.
use Rattle.std.specs.Prelude.{◌≡◌, ℕ, ◌≤◌, List, count_by}
use Rattle.fc_base.specs.Sheet.{Slot}
use Rattle.fc_places.specs.declared.index.By.TheVariants.{Birth, Mapping, Volume}
use Rattle.fc_places.specs.Indexing.{Index, IsIndexOf}

-- How many volumes there are: each has one live slot.
abbrev pub volume_count : List Slot → ℕ
volume_count slots = count_by (λ (t : Slot). t.is_live) slots

pub record Directory : Type 0 where
  pub births : Index
  pub mappings : Index
  pub volumes : Index
  pub count : ℕ

-- Each list is by what its name says.
pub record AreNamed (d : Directory) : Type 0 where
  pub births : d.births.by ≡ Birth
  pub mappings : d.mappings.by ≡ Mapping
  pub volumes : d.volumes.by ≡ Volume

-- They list the slots, and the volumes are counted.
pub record ListsSlots (slots : List Slot) (d : Directory) : Type 0 where
  pub births : IsIndexOf slots Birth d.births.entries
  pub mappings : IsIndexOf slots Mapping d.mappings.entries
  pub volumes : IsIndexOf slots Volume d.volumes.entries
  pub count : d.count ≡ volume_count slots

-- Each has room for so many.
pub record HasPlaces (n : ℕ) (d : Directory) : Type 0 where
  pub births : n ≤ d.births.room
  pub mappings : n ≤ d.mappings.room
  pub volumes : n ≤ d.volumes.room
