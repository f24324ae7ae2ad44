-- The lane of a grain, made ready for one more entry.
use Rattle.std.specs.Prelude.{◌≡◌, ℕ, ◌%◌, ◌<◌, ◌≤◌, List, length, map, slice_index_or}
use Rattle.fc_base.specs.Pools.{Pool}
use Rattle.fc_base.specs.declared.limits.TheConstants.{MAX_ENTRIES}
use Rattle.fc_entry.specs.HistoryState.{HistoryState}
use Rattle.fc_entry.specs.declared.entry.Entry.{Entry}
use Rattle.fc_entry.specs.declared.stop.Stop.{Stop}
use Rattle.fc_entry.specs.declared.stop.Stop.TheVariants.{LogFull, NoMemory}
use Rattle.fc_lane.specs.Lane.{LaneView, IsReady}
use Rattle.fc_lanes.specs.Dealing.{disks_in}
use Rattle.fc_legal.specs.Whole.{Whole}
use Rattle.fc_stands.specs.Quiet.{QuietBy}
use Rattle.fc_stands.specs.Store.{StandsFor, StoreView}

-- It stands at this place, with room for an entry.
pub record IsReadyAt (s : StoreView) (grain place : ℕ) : Type 0 where
  pub at : place ≡ grain % length s.lanes
  pub inside : place < length s.lanes
  pub ready : (d : LaneView) → IsReady (slice_index_or s.lanes place d)

-- How many disks of each kind a lane has.
abbrev pub disks_of : LaneView → Pool
disks_of v = v.grains.disks

-- Why no entry is made: the history is full, or memory was wanted.
abbrev pub IsStopped : Stop → HistoryState → Type 0
IsStopped LogFull history = MAX_ENTRIES ≤ length history.entries
IsStopped NoMemory history = Unit {0}

-- Room was made in a lane. The store stands for what it did, with the same control part and as many disks, and as quiet; and each lane
-- holds what it held.
pub record IsRoomier (old new : StoreView) : Type 0 where
  pub control : new.control ≡ old.control
  pub stands : (w : Whole) → StandsFor old w → StandsFor new w
  pub disks : disks_in new.lanes ≡ disks_in old.lanes
  pub grains : map (λ (v : LaneView). v.grains) new.lanes ≡ map (λ (v : LaneView). v.grains) old.lanes
  pub quiet : (entries : List Entry) → QuietBy entries old → QuietBy entries new
