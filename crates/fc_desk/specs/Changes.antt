-- When a decision can be applied with no memory, and what it makes of the control part.
use Rattle.std.specs.Prelude.{◌≡◌, ℕ, ◌+◌, ◌^◌, ◌<◌, ◌≤◌, Bool, true, false, if◌then◌else◌, List, [], ◌∷◌, Option, Some, None, is_some}
use Rattle.std.specs.List.{count_by}
use Rattle.std.specs.Option.{ForSome}
use Rattle.fc_base.specs.Tables.{Tables, Fits, after_change, room_asked}
use Rattle.fc_base.specs.declared.decision.Decision.{Decision}
use Rattle.fc_base.specs.declared.decision.LaneEvent.{LaneEvent}
use Rattle.fc_base.specs.declared.decision.LaneEvent.TheVariants.{Work}
use Rattle.fc_base.specs.declared.volume.Change.{Change}
use Rattle.fc_base.specs.declared.volume.Change.TheVariants.{AddVolume, AddMapping, AddGroup}
use Rattle.fc_desk.specs.Control.{ControlState}

-- Changes fit the tables, each after those before it.
abbrev pub FitChanges : Tables → List Change → Type 0
FitChanges t [] = Unit {0}
FitChanges t (change ∷ changes) = Fits t change × FitChanges (after_change t change) changes

-- ---- new objects

abbrev pub adds : Change → Bool
adds change = is_some (room_asked change)

-- What is still reserved after a change: a new object leaves it.
abbrev pub reserved_after : Option Change → Change → Option Change
reserved_after reserved change = if adds change then None else reserved

-- Each object that comes is the one that is reserved when its turn comes. So there is one at most.
abbrev pub AreReserved : Option Change → List Change → Type 0
AreReserved reserved [] = Unit {0}
AreReserved reserved (change ∷ changes) =
    ForSome (room_asked change) (λ asked. reserved ≡ Some asked) × AreReserved (reserved_after reserved change) changes

-- The id of a new object isn't the last that there is, so that one more can be counted.
abbrev pub IsCountable : Change → Type 0
IsCountable (AddVolume volume) = volume.id.0 + 1 < 2 ^ 32
IsCountable (AddMapping mapping) = mapping.id.0 + 1 < 2 ^ 32
IsCountable (AddGroup group) = group.id.0 + 1 < 2 ^ 32
IsCountable change = Unit {0}

abbrev pub AreCountable : List Change → Type 0
AreCountable [] = Unit {0}
AreCountable (change ∷ changes) = IsCountable change × AreCountable changes

-- ---- background work

abbrev pub is_work : LaneEvent → Bool
is_work (Work m copies cleans) = true
is_work event = false

-- how many events set flags
abbrev pub works : List LaneEvent → ℕ
works events = count_by is_work events

-- ---- all

-- The new object of a decision is reserved, and there is room for as many more mappings with background work as its events
-- may bring.
pub record CanApply (c : ControlState) (d : Decision) : Type 0 where
  pub reserved : AreReserved c.reserved d.changes
  pub room : works d.events ≤ c.room
