-- The two phases of a command: a settling and what is decided after it. Each is made ready, and then done.
use Rattle.std.specs.Prelude.{◌≡◌, ℕ, ◌+◌, ◌≤◌, filter, fold, length}
use Rattle.fc_base.specs.SheetView.{SheetView}
use Rattle.fc_base.specs.Tables.{after_change}
use Rattle.fc_base.specs.declared.command.Command.{Command}
use Rattle.fc_base.specs.declared.command.Command.TheVariants.{Read as ReadLine, Write as WriteLine, Mkpreset}
use Rattle.fc_base.specs.declared.decision.Decision.{Decision}
use Rattle.fc_books.specs.After.{after_table_change, flags_after}
use Rattle.fc_desk.specs.Changes.{FitChanges, AreCountable, CanApply, adds}
use Rattle.fc_desk.specs.Control.{ControlState, books_of}
use Rattle.fc_lane.specs.Lane.{ArmsNone, IsSameLane, KeepsQuiet}
use Rattle.fc_legal.specs.Lawful.{IsLawful}
use Rattle.fc_legal.specs.Stands.{Stands}
use Rattle.fc_legal.specs.Steps.{left_by}
use Rattle.fc_legal.specs.Whole.{Whole, lanes}
use Rattle.fc_lanes.specs.AllLanes.{ArmsBy, CanAllDo, EachLane, KeepsArmed}
use Rattle.fc_stands.specs.Store.{StoreView, IsControlOf, AreLanesOf, AreFewCalls}

-- The store stands for what is told after so many decisions. Between the phases of a command there may be one more than its
-- entries allow.
pub record StandsAt (decisions : ℕ) (s : StoreView) (w : Whole) : Type 0 where
  pub control : IsControlOf s.control w.books
  pub count : length s.lanes ≡ lanes w
  pub each : AreLanesOf s.control.grain w s.lanes
  pub stands : Stands decisions w
  pub calls : AreFewCalls w

-- A decision that is lawful on what the store stands for.
abbrev pub IsDecidedAt : StoreView → Decision → Type 0
IsDecidedAt s d = (decisions : ℕ) × (w : Whole) × StandsAt decisions s w × IsLawful s.control.grain decisions w d

-- ---- what is done

-- The control part after a decision's changes and events.
pub record IsControlAfter (old new : ControlState) (d : Decision) : Type 0 where
  pub grain : new.grain ≡ old.grain
  pub tables : new.tables ≡ fold after_change old.tables d.changes
  pub next_volume : (view : SheetView) → new.next_volume ≡ (fold after_table_change (books_of old view) d.changes).next_volume
  pub next_mapping : (view : SheetView) → new.next_mapping ≡ (fold after_table_change (books_of old view) d.changes).next_mapping
  pub next_group : (view : SheetView) → new.next_group ≡ (fold after_table_change (books_of old view) d.changes).next_group
  pub flags : new.flags ≡ fold flags_after old.flags d.events

-- ---- both parts

-- The control part can do a decision with no memory.
pub record CanControlDo (c : ControlState) (d : Decision) : Type 0 where
  pub fits : FitChanges c.tables d.changes
  pub countable : AreCountable d.changes
  pub ready : CanApply c d

-- The store can be made ready for a decision: it is lawful on what the store stands for, and one object comes at most, with an
-- id that isn't the last.
pub record CanPrepare (s : StoreView) (d : Decision) : Type 0 where
  pub decided : IsDecidedAt s d
  pub one : length (filter adds d.changes) ≤ 1
  pub countable : AreCountable d.changes

-- It is ready to do it with no memory.
pub record IsReadyFor (s : StoreView) (d : Decision) : Type 0 where
  pub can : CanPrepare s d
  pub control : CanApply s.control d
  pub lanes : CanAllDo s.lanes d.events

-- Made ready or not, a store stands for what it did, and each lane stays the lane that it is, as quiet as it was, with the same
-- armed faults.
pub record IsReserved (old new : StoreView) : Type 0 where
  pub grain : new.control.grain ≡ old.control.grain
  pub lanes : EachLane IsSameLane old.lanes new.lanes
  pub stands : (decisions : ℕ) (w : Whole) → StandsAt decisions old w → StandsAt decisions new w
  pub quiet : EachLane KeepsQuiet old.lanes new.lanes
  pub armed : EachLane KeepsArmed old.lanes new.lanes

-- What is decided is done: the store stands for what that leaves, and each lane stays the lane that it is. Where no fault was
-- armed, a quiet lane stays so; and the armed faults are those that the events set.
pub record IsDone (d : Decision) (old new : StoreView) : Type 0 where
  pub grain : new.control.grain ≡ old.control.grain
  pub lanes : EachLane IsSameLane old.lanes new.lanes
  pub stands : (decisions : ℕ) (w : Whole) → StandsAt decisions old w → IsLawful old.control.grain decisions w d → StandsAt (decisions + 1) new (left_by old.control.grain w d)
  pub quiet : ArmsNone d.events → EachLane KeepsQuiet old.lanes new.lanes
  pub armed : EachLane (ArmsBy d.events) old.lanes new.lanes

-- ---- commands

-- A line that is a command of its own: no access and no preset.
abbrev pub IsDecided : Command → Type 0
IsDecided (ReadLine volume block count) = ⊥
IsDecided (WriteLine volume block count byte) = ⊥
IsDecided (Mkpreset source preset name) = ⊥
IsDecided command = Unit {0}
