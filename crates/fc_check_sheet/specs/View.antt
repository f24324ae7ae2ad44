-- A plain sheet, marks of grains and counts of disks together, as decisions on commands see them.
use Rattle.std.specs.Prelude.{◌≡◌, ℕ, ◌<◌, ◌^◌, Some, List, length, map, AllPairs, Contains}
use Rattle.fc_base.specs.Pools.{Pool}
use Rattle.fc_base.specs.Room.{Room}
use Rattle.fc_base.specs.Sheet.{Slot, Sheet, slot_at}
use Rattle.fc_base.specs.SheetView.{SheetView}
use Rattle.fc_base.specs.declared.volume.Mapping.{Mapping}
use Rattle.fc_changed.specs.Row.{Row, restart_in}
use Rattle.fc_follow.specs.Following.{restarts}
use Rattle.fc_check_sheet.specs.declared.pool.LanePool.{LanePool}

-- Grains can be counted: no slot and no restart set has 2^32 or more.
pub record IsSmall (slots : List Slot) (rows : List Row) : Type 0 where
  pub held : (k : ℕ) → length (slot_at slots k).held < 2 ^ 32
  pub restarts : (m : ℕ) → length (restart_in m rows) < 2 ^ 32

-- Mappings by id, and each that has a slot.
pub record AreListed (slots : List Slot) (mappings : List Mapping) : Type 0 where
  pub rising : AllPairs (λ (a b : Mapping). a.id.0 < b.id.0) mappings
  pub owned : (k n : ℕ) → k < length slots → (slot_at slots k).mapping ≡ Some n → (m : Mapping) × Contains mappings m × (m.id.0 ≡ n)

-- The disks that a lane has for new volumes.
abbrev pub pool_of : LanePool → Pool
pool_of lane = record { flat = lane.flat; thin = lane.thin }

abbrev pub pools_of : List LanePool → List Pool
pools_of lanes = map pool_of lanes

-- The chains at all grains, the changed grains of incremental mappings, the disks that each lane has for new
-- volumes, and which grains occupy memory.
pub record Plain : Type 0 where
  pub sheet : Sheet
  pub rows : List Row
  pub pools : List Pool
  pub rooms : List Room

-- What decisions see of them.
abbrev pub view_of : Plain → SheetView
view_of p = record { sheet = p.sheet; restarts = restarts p.rows; pools = p.pools; rooms = p.rooms }
