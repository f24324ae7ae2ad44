-- Lanes none of whose disks fails, unless an entry armed a fault; and armed faults as the entries tell.
use Rattle.std.specs.Prelude.{◌≡◌, ℕ, ◌+◌, false, List, Contains, Result, Ok, Err}
use Rattle.std.specs.List.{All}
use Rattle.fc_base.specs.declared.command.Command.{Command}
use Rattle.fc_base.specs.declared.outcome.NoMemory.{NoMemory}
use Rattle.fc_base.specs.declared.request.Effect.{Effect}
use Rattle.fc_base.specs.declared.request.Reply.{Reply}
use Rattle.fc_base.specs.declared.request.Request.TheVariants.{Command as Asked}
use Rattle.fc_base.specs.declared.volume.Volume.{Volume}
use Rattle.fc_entry.specs.declared.entry.Entry.{Entry}
use Rattle.fc_grains.specs.Grains.{stopped}
use Rattle.fc_grains.specs.Quiet.{IsQuiet}
use Rattle.fc_grains.specs.Volumes.{volume_of}
use Rattle.fc_lane.specs.Lane.{LaneView, KeepsQuiet}
use Rattle.fc_stands.specs.Arming.{ArmNothing, ArmedSince, IsArmedSince, armed_since, arms, later}
use Rattle.fc_stands.specs.Store.{StoreView}

-- No disk of the lane can fail at a call, and none did.
pub record NeverFails (v : LaneView) : Type 0 where
  pub quiet : IsQuiet v.grains
  pub faults : v.grains.faults ≡ 0

abbrev pub AreQuiet : List LaneView → Type 0
AreQuiet ls = All NeverFails ls

-- How many calls away the armed fault of a volume's disk in the lane is, where the disk tells it, fits what is told of it.
abbrev pub IsDueSince : LaneView → ℕ → ArmedSince → Type 0
IsDueSince v id s = IsArmedSince s (volume_of v.grains.volumes id).due

-- In the lane it is as these entries tell, for each of these volumes.
abbrev pub IsArmedBy : List Entry → List Volume → LaneView → Type 0
IsArmedBy entries volumes v = (x : Volume) → Contains volumes x → IsDueSince v x.id.0 (armed_since v.lane v.lanes x entries)

-- What these entries leave of the faults of a store's disks: unless one of them armed a fault no disk fails, and in each lane the
-- armed faults of its volumes' disks are as they tell.
pub record QuietBy (entries : List Entry) (s : StoreView) : Type 0 where
  pub quiet : ArmNothing entries → AreQuiet s.lanes
  pub armed : All (IsArmedBy entries s.control.tables.volumes) s.lanes

-- No fault of a lane is armed, and an armed one comes nearer by so many calls at most.
abbrev pub KeepsNear : ℕ → LaneView → LaneView → Type 0
KeepsNear calls old new = (id : ℕ) (s : ArmedSince) → IsDueSince old id s → IsDueSince new id (later calls s)

-- A lane none of whose disks fails where none could, and in which no fault is armed: an armed one comes nearer by the calls that
-- the lane counts.
pub record KeepsFaults (old new : LaneView) : Type 0 where
  pub quiet : KeepsQuiet old new
  pub calls : ℕ
  pub counted : new.grains.calls ≡ stopped (old.grains.calls + calls)
  pub near : KeepsNear calls old new

-- What was answered of a command tells of no armed fault.
abbrev pub AnswersUnarmed : Result (Reply × List Effect) NoMemory → Command → Type 0
AnswersUnarmed (Ok answer) command = arms (Asked command) answer.0 ≡ false
AnswersUnarmed (Err error) command = Unit {0}
