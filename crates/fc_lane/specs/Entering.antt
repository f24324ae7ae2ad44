-- Entries of a lane, and what stands after them.
use Rattle.std.specs.Prelude.{◌≡◌, ℕ, ◌%◌, false, Option, Some, None, List}
use Rattle.fc_base.specs.declared.request.Move.{Move}
use Rattle.fc_base.specs.declared.request.Request.{Request}
use Rattle.fc_base.specs.Sheet.{birth_place, column}
use Rattle.fc_entry.specs.declared.entry.Entry.{Entry}
use Rattle.fc_follow.specs.Following.{Followed, followed_entry}
use Rattle.fc_grains.specs.Volumes.{rooms_of}
use Rattle.fc_lane.specs.Lane.{LaneView, IsFollowing, IsLaneOf, IsAsked, IsSameLane, KeepsDisks, KeepsQuiet, of}
use Rattle.fc_steps.specs.StepsEnd.{StepsEnd, StepsStand, torn_in}
use Rattle.fc_steps.specs.declared.stop.Stop.{Stop}
use Rattle.fc_pictures.specs.StepsLaw.{IsLiveAt}
use Rattle.fc_rules.specs.LaneRight.{IsRightInLane, record_of}
use Rattle.fc_rules.specs.LaneTold.{LaneOf, LaneTold, place_of, told_past}
use Rattle.fc_rules.specs.LaneTurn.{spot_at}
use Rattle.fc_rules.specs.Rooms.{rooms_entry}
use Rattle.fc_rules.specs.Steps.{steps_of_fill}

-- It is right for whatever is told and fits, and the lane then stands for what is told with it.
pub record HasEntered (old : LaneView) (Fits : LaneTold → Type 0) (number actor : ℕ) (request : Request) (entry : Entry) (new : LaneView) : Type 0 where
  pub right : (told : LaneTold) → IsLaneOf old told → Fits told → IsRightInLane (of old) told entry × IsLaneOf new (told_past (of old) told (record_of entry))
  pub rooms : (told : LaneTold) → IsLaneOf old told → Fits told → rooms_of new.grains.volumes ≡ rooms_entry (of old) told.picture (rooms_of old.grains.volumes) entry
  pub asked : IsAsked number actor request entry
  pub same : IsSameLane old new
  pub quiet : KeepsQuiet old new
  pub disks : KeepsDisks entry.calls entry.torn old.grains new.grains
  pub plan_room : new.plan_room ≡ old.plan_room
  pub changes : new.changes ≡ old.changes

-- The same of a lane that follows its incremental mappings: it then follows what is told with the entry.
pub record HasFollowed (old : LaneView) (Fits : LaneTold → Type 0) (number actor : ℕ) (request : Request) (entry : Entry) (new : LaneView) : Type 0 where
  pub right : (f : Followed) → IsFollowing old f → Fits f.told → IsRightInLane (of old) f.told entry × IsFollowing new (followed_entry (of old) f entry)
  pub asked : IsAsked number actor request entry
  pub same : IsSameLane old new
  pub quiet : KeepsQuiet old new
  pub disks : KeepsDisks entry.calls entry.torn old.grains new.grains
  pub plan_room : new.plan_room ≡ old.plan_room

-- The parts that steps don't touch.
pub record SameBeside (old new : LaneView) : Type 0 where
  pub lane : new.lane ≡ old.lane
  pub lanes : new.lanes ≡ old.lanes
  pub volumes : new.accesses.volumes ≡ old.accesses.volumes
  pub flags : new.work.flags ≡ old.work.flags
  pub changes : new.changes ≡ old.changes

-- A fill of the live slot at place `k`, which has this name, and lacks the grain of this number in the lane.
pub record IsFill (l : LaneOf) (told : LaneTold) (slot number k : ℕ) : Type 0 where
  pub place : birth_place told.sheet.slots slot ≡ Some k
  pub live : IsLiveAt told.sheet.slots (place_of l number) k
  pub lacks : (column told.sheet.slots (place_of l number)).held k ≡ false
  pub of_lane : number % l.lanes ≡ l.lane

-- Its steps ended so.
pub record HasFilled (old : LaneView) (slot number : ℕ) (moves : List Move) (calls : ℕ) (stop : Option Stop) (new : LaneView) : Type 0 where
  pub beside : SameBeside old new
  pub plan_room : new.plan_room ≡ old.plan_room
  pub ends : (told : LaneTold) (k : ℕ) → IsLaneOf old told → IsFill (of old) told slot number k →
      StepsEnd (spot_at (of old) told number) (steps_of_fill (spot_at (of old) told number) k) moves calls stop old.grains new.grains
      × StepsStand (of old) told None moves calls (torn_in stop) old.chains old.grains new.chains new.grains
