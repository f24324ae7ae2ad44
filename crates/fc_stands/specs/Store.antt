-- The store as contracts see it, and when it stands for what a history tells.
use Rattle.std.specs.Prelude.{◌≡◌, ℕ, ◌*◌, ◌^◌, ◌<◌, ◌≤◌, List, length, slice_index_or}
use Rattle.fc_base.specs.declared.size.GrainSize.{GrainSize}
use Rattle.fc_books.specs.Books.{Books}
use Rattle.fc_desk.specs.Control.{ControlState}
use Rattle.fc_lane.specs.Lane.{LaneView, IsFollowing}
use Rattle.fc_legal.specs.Stands.{Stands}
use Rattle.fc_legal.specs.Whole.{Whole, lanes, followed_at}

-- The control part, and the lanes in order.
pub record StoreView : Type 0 where
  pub control : ControlState
  pub lanes : List LaneView

-- The control part has the tables, the ids that come next, and the background work of the books.
pub record IsControlOf (c : ControlState) (b : Books) : Type 0 where
  pub tables : c.tables ≡ b.tables
  pub next_volume : c.next_volume ≡ b.next_volume
  pub next_mapping : c.next_mapping ≡ b.next_mapping
  pub next_group : c.next_group ≡ b.next_group
  pub flags : c.flags ≡ b.flags

-- A lane has its part of what is told, and of what is kept of incremental mappings.
pub record IsLaneAt (grain : GrainSize) (w : Whole) (i : ℕ) (v : LaneView) : Type 0 where
  pub lane : v.lane ≡ i
  pub lanes_are : v.lanes ≡ lanes w
  pub grain_is : v.grains.grain ≡ grain
  pub stands : IsFollowing v (followed_at grain w i)

-- All lanes do.
abbrev pub AreLanesOf : GrainSize → Whole → List LaneView → Type 0
AreLanesOf grain w ls = (i : ℕ) (d : LaneView) → i < length ls → IsLaneAt grain w i (slice_index_or ls i d)

-- The calls of each lane are few, so that no count of calls comes to its last value.
abbrev pub AreFewCalls : Whole → Type 0
AreFewCalls w = (i : ℕ) → slice_index_or w.calls i 0 ≤ w.entries * 2 ^ 32

-- The store stands for what is told: at most two decisions were made for each entry.
pub record StandsFor (s : StoreView) (w : Whole) : Type 0 where
  pub control : IsControlOf s.control w.books
  pub count : length s.lanes ≡ lanes w
  pub each : AreLanesOf s.control.grain w s.lanes
  pub decisions : ℕ
  pub few : decisions ≤ 2 * w.entries
  pub stands : Stands decisions w
  pub calls : AreFewCalls w
