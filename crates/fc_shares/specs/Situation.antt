-- What the parts of a store stand for together, and each part's share of it.
use Rattle.std.specs.Prelude.{◌≡◌, ℕ, ◌*◌, ◌<◌, ◌≤◌}
use Rattle.fc_base.specs.declared.size.GrainSize.{GrainSize}
use Rattle.fc_desk.specs.Control.{ControlState}
use Rattle.fc_entry.specs.declared.entry.Entry.{Entry}
use Rattle.fc_lane.specs.Lane.{LaneView, IsSameLane}
use Rattle.fc_legal.specs.Stands.{Stands}
use Rattle.fc_legal.specs.Steps.{Step}
use Rattle.fc_legal.specs.Whole.{Whole, lanes}
use Rattle.fc_stands.specs.Arming.{SetsNothing}
use Rattle.fc_stands.specs.Quiet.{KeepsFaults}
use Rattle.fc_stands.specs.Store.{AreFewCalls, IsControlOf, IsLaneAt}

-- The grain size, and what the history tells.
pub record Situation : Type 0 where
  pub grain : GrainSize
  pub whole : Whole

-- How many entries are told.
abbrev pub entries_told : Situation → ℕ
entries_told s = s.whole.entries

-- The share of the control part.
pub record HasControl (s : Situation) (c : ControlState) : Type 0 where
  pub books : IsControlOf c s.whole.books
  pub grain : c.grain ≡ s.grain

-- The share of a lane, which began as `opening`: since then it has the same disks, none fails where none could fail then, and no
-- fault was armed: each comes nearer by the calls of the lane.
pub record HasLane (s : Situation) (i : ℕ) (opening v : LaneView) : Type 0 where
  pub within : i < lanes s.whole
  pub stands : IsLaneAt s.grain s.whole i v
  pub same : IsSameLane opening v
  pub faults : KeepsFaults opening v

-- What holds of every situation that entries lead to from the first: the grain size, the lanes, the actors' names and the volumes
-- stay; at most two decisions were made for each entry, and the calls of lanes are few.
pub record IsSound (first s : Situation) : Type 0 where
  pub grain : s.grain ≡ first.grain
  pub lanes_are : lanes s.whole ≡ lanes first.whole
  pub actors : s.whole.actors ≡ first.whole.actors
  pub volumes : s.whole.books.tables.volumes ≡ first.whole.books.tables.volumes
  pub decisions : ℕ
  pub few : decisions ≤ 2 * s.whole.entries
  pub stands : Stands decisions s.whole
  pub calls : AreFewCalls s.whole

-- An entry with this number leads from one situation to the next. It sets no armed fault.
pub record LeadsTo (s : Situation) (number : ℕ) (entry : Entry) (next : Situation) : Type 0 where
  pub step : Step s.grain s.whole (record entry { number = number }) next.whole
  pub grain : next.grain ≡ s.grain
  pub unset : SetsNothing entry.request entry.reply
