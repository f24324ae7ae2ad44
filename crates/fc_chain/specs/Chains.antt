-- The chains of one lane.
use Rattle.std.specs.Prelude.{length, ◌≡◌, ℕ, ◌+◌, ◌-◌, ◌*◌, ◌/◌, ◌%◌, ◌^◌, ◌<◌, Option, IsSome, List, option_map}
use Rattle.fc_base.specs.SheetFacts.{IsSound}
use Rattle.fc_slots.specs.Contiguous.{IsContiguous}
use Rattle.fc_events.specs.Table.{Table}
use Rattle.fc_tallies.specs.Ledger.{Ledger, IsCounted}
use Rattle.fc_places.specs.Directory.{Directory, ListsSlots, HasPlaces}
use Rattle.fc_base.specs.declared.ids.SlotId.{SlotId}
use Rattle.fc_events.specs.LaneGrains.{AreNumbered}
pub use Rattle.fc_slots.specs.Found.{found}
pub use Rattle.fc_events.specs.LaneGrains.{lane_grains}
use Rattle.fc_base.specs.Sheet.{Slot, Sheet, slot_id, birth_place}

-- The chains of lane `lane` of `lanes`: the sheet of the lane's grains, and how many slots can be made, of at most how many
-- grains each, without taking memory.
pub record Chains : Type 0 where
  pub lane : ℕ
  pub lanes : ℕ
  pub sheet : Sheet
  pub room : ℕ
  pub width : ℕ

-- A grain of the volume belongs to the lane, and has this place among the lane's grains.
abbrev pub IsOfLane : Chains → ℕ → Type 0
IsOfLane c g = g % c.lanes ≡ c.lane

abbrev pub in_lane : Chains → ℕ → ℕ
in_lane c g = g / c.lanes

-- The number of the grain at a place among the lane's.
abbrev pub number_in : Chains → ℕ → ℕ
number_in c place = place * c.lanes + c.lane

-- What always holds of the kept parts.
pub record IsKept (lane lanes : ℕ) (sheet : Sheet) : Type 0 where
  pub lane_in : lane < lanes
  pub sound : IsSound sheet
  pub together : IsContiguous sheet.slots

-- The slot with this name is there.
abbrev pub IsThere : List Slot → SlotId → Type 0
IsThere slots name = IsSome (birth_place slots name.0)

-- All that always holds of a cascade's parts.
pub record AreParts (lane lanes : ℕ) (table : Table) (ledger : Ledger) (directory : Directory) (room width : ℕ) : Type 0 where
  pub kept : IsKept lane lanes table.sheet
  pub counted : IsCounted table ledger room width
  pub listed : ListsSlots table.sheet.slots directory
  pub places : HasPlaces (length table.sheet.slots + room) directory
  pub numbered : AreNumbered lane lanes table.width
