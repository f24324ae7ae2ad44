-- What all lanes do, one after the other: they are made ready for the events of a decision, and then do them.
use Rattle.std.specs.Prelude.{◌≡◌, ℕ, ◌<◌, List, fold, length, slice_index_or}
use Rattle.fc_apply.specs.Parts.{ArmedBy, IsArmedAt}
use Rattle.fc_base.specs.declared.decision.LaneEvent.{LaneEvent}
use Rattle.fc_follow.specs.Following.{Followed, FitsFollowed, followed_event}
use Rattle.fc_grains.specs.Volumes.{volume_of}
use Rattle.fc_lane.specs.Lane.{LaneView, ArmsNone, CanDoEvents, IsFollowing, IsSameLane, KeepsQuiet, of}

-- ---- the armed faults of a lane

-- The armed fault of a volume's disk in a lane is so many calls away, where the disk tells it; 0 for none.
abbrev pub IsDueIn : LaneView → ℕ → ℕ → Type 0
IsDueIn v id n = IsArmedAt n (volume_of v.grains.volumes id).due

-- They stay.
abbrev pub KeepsArmed : LaneView → LaneView → Type 0
KeepsArmed old new = (id n : ℕ) → IsDueIn old id n → IsDueIn new id n

-- After events they are those that these set.
abbrev pub ArmsBy : List LaneEvent → LaneView → LaneView → Type 0
ArmsBy events old new = ArmedBy (of old) events old.grains.volumes new.grains.volumes

-- ---- what a lane does

-- A lane after events that fit it.
pub record IsLaneAfter (events : List LaneEvent) (old new : LaneView) : Type 0 where
  pub same : IsSameLane old new
  pub stands : (f : Followed) → IsFollowing old f → FitsFollowed (of old) f events → IsFollowing new (fold (followed_event (of old)) f events)
  pub quiet : ArmsNone events → KeepsQuiet old new
  pub armed : ArmsBy events old new

-- A lane that was made ready.
pub record IsLaneReady (old new : LaneView) : Type 0 where
  pub same : IsSameLane old new
  pub stands : (f : Followed) → IsFollowing old f → IsFollowing new f
  pub quiet : KeepsQuiet old new
  pub armed : KeepsArmed old new

-- ---- all lanes

-- Of each lane, from the one store to the other.
pub record EachLane (P : LaneView → LaneView → Type 0) (old new : List LaneView) : Type 0 where
  pub count : length new ≡ length old
  pub each : (i : ℕ) (d : LaneView) → i < length old → P (slice_index_or old i d) (slice_index_or new i d)

-- All lanes can do the events.
abbrev pub CanAllDo : List LaneView → List LaneEvent → Type 0
CanAllDo ls events = (i : ℕ) (d : LaneView) → i < length ls → CanDoEvents (slice_index_or ls i d) events

-- The events fit what each lane is told, and what it keeps of incremental mappings.
abbrev pub FitAll : List LaneView → List LaneEvent → Type 0
FitAll ls events = (i : ℕ) (d : LaneView) → i < length ls → (f : Followed) × IsFollowing (slice_index_or ls i d) f × FitsFollowed (of (slice_index_or ls i d)) f events
