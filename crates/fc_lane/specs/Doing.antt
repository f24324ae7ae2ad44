-- An entry of a lane that is under way, step by step.
use Rattle.std.specs.Prelude.{◌≡◌, ℕ, ◌≤◌, ◌<◌, ◌^◌, Some, None, IsSome, length, take}
use Rattle.fc_base.specs.declared.ids.GrainNo.{GrainNo}
use Rattle.fc_base.specs.declared.ids.MapId.{MapId}
use Rattle.fc_base.specs.declared.request.Pick.TheVariants.{Any}
use Rattle.fc_base.specs.declared.state.Access.TheVariants.{Online}
use Rattle.fc_entry.specs.Picture.{grain_of_block}
use Rattle.fc_entry.specs.declared.entry.Entry.{Entry}
use Rattle.fc_lane.specs.Entering.{HasFollowed, SameBeside}
use Rattle.fc_lane.specs.Lane.{LaneView, IsLaneOf, of}
use Rattle.fc_lane.specs.Turns.{CanPick}
use Rattle.fc_lane.specs.Workers.{ask_of, filled_slot, next_of, turn_of}
use Rattle.fc_lane.specs.declared.doing.Begun.{Begun}
use Rattle.fc_lane.specs.declared.doing.Begun.TheVariants.{Answered, UnderWay}
use Rattle.fc_lane.specs.declared.doing.Doing.{Doing}
use Rattle.fc_lane.specs.declared.worker.Worker.{Worker}
use Rattle.fc_rules.specs.LaneFits.{FitsPart}
use Rattle.fc_rules.specs.LaneRight.{done_write}
use Rattle.fc_rules.specs.LaneTold.{LaneOf, LaneTold, lane_access, place_of}
use Rattle.fc_rules.specs.LaneTurn.{cleaned_slot, copied_slot}
use Rattle.fc_rules.specs.Steps.{HasDoneNothing}
use Rattle.fc_steps.specs.Asking.{done_of, request_of, steps_entry}
use Rattle.fc_steps.specs.UnderWay.{AreUnderWay, IsCounted, first_steps, slot_asked}
use Rattle.fc_steps.specs.declared.ask.Ask.{Ask}
use Rattle.fc_steps.specs.declared.ask.Ask.TheVariants.{Write, Copy, Clean}

-- What is asked fits what is told.
abbrev pub FitsAsk : LaneOf → Ask → LaneTold → Type 0
FitsAsk l (Write part) told = FitsPart l told part.volume part.block part.count
FitsAsk l (Copy m grain) told = IsSome (copied_slot told.sheet.slots m.0 (place_of l grain.0))
FitsAsk l (Clean m grain) told = IsSome (cleaned_slot told.sheet.slots m.0 (place_of l grain.0))

-- A write that is under way is of a volume that was online, of a grain whose number is below 2^32.
abbrev pub CanWrite : LaneView → Ask → Type 0
CanWrite v (Write part) = (lane_access v.accesses.volumes part.volume ≡ Online) × (grain_of_block v.grains.grain part.block < 2 ^ 32)
CanWrite v (Copy m grain) = Unit {0}
CanWrite v (Clean m grain) = Unit {0}

-- What was asked fits what is told, of the slot at place `slot`, and its steps came so far.
pub record HasCome (old : LaneView) (told : LaneTold) (doing : Doing) (now : LaneView) : Type 0 where
  pub slot : ℕ
  pub slot_is : slot_asked (of old) told doing.steps.ask ≡ Some slot
  pub way : AreUnderWay (of old) told slot old.chains old.grains doing.steps now.chains now.grains

-- An entry that began in the lane `old`: for whatever was told and fits its steps came so far, and they alone changed the
-- chains and the grains; nothing else changed but the room for the next entry.
pub record IsUnderWay (old : LaneView) (doing : Doing) (now : LaneView) : Type 0 where
  pub beside : SameBeside old now
  pub plan_room : now.plan_room ≡ old.plan_room
  pub before : doing.before ≡ old.grains.faults
  pub counted : IsCounted doing.steps
  pub room : length doing.steps.planned.moves ≤ old.plan_room
  pub can_write : CanWrite old doing.steps.ask
  pub can : (told : LaneTold) × IsLaneOf old told × FitsAsk (of old) doing.steps.ask told
  pub came : (told : LaneTold) → IsLaneOf old told → FitsAsk (of old) doing.steps.ask told → HasCome old told doing now

-- It was asked so, and no step was made.
pub record HasBegun (old : LaneView) (number actor : ℕ) (ask : Ask) (doing : Doing) (new : LaneView) : Type 0 where
  pub way : IsUnderWay old doing new
  pub number_is : doing.number ≡ number
  pub actor_is : doing.actor ≡ actor
  pub steps_are : doing.steps ≡ first_steps ask doing.steps.grain doing.steps.place doing.steps.planned
  pub same : new ≡ record old { entry_room = new.entry_room }

-- It was answered at once, and nothing was done or changed; or it began.
abbrev pub HasBegunAs : LaneView → ℕ → ℕ → Ask → Begun → LaneView → Type 0
HasBegunAs old number actor ask (Answered entry) new =
    HasFollowed old (FitsAsk (of old) ask) number actor (request_of ask) entry new × (new ≡ old)
    × HasDoneNothing entry × (done_write entry.request entry.reply ≡ None)
HasBegunAs old number actor ask (UnderWay doing) new = HasBegun old number actor ask doing new

-- The worker's next work in the lane is this grain of this mapping.
abbrev pub IsNextWork : LaneView → Worker → MapId → GrainNo → Type 0
IsNextWork v worker m grain = (told : LaneTold) → IsLaneOf v told → next_of worker (of v) told ≡ Some (m, grain)

-- A worker's turn: the next piece of its work began.
pub record HasBegunWork (old : LaneView) (number actor : ℕ) (worker : Worker) (doing : Doing) (new : LaneView) : Type 0 where
  pub map : MapId
  pub grain : GrainNo
  pub next : IsNextWork old worker map grain
  pub begun : HasBegun old number actor (ask_of worker map grain) doing new

-- Or it was idle, and nothing changed.
abbrev pub HasBegunTurn : LaneView → ℕ → ℕ → Worker → Begun → LaneView → Type 0
HasBegunTurn old number actor worker (Answered entry) new =
    HasFollowed old (λ told. CanPick (of old) (filled_slot worker told.sheet.slots) Any) number actor (turn_of worker old.lane) entry new × (new ≡ old)
HasBegunTurn old number actor worker (UnderWay doing) new = HasBegunWork old number actor worker doing new

-- The entry of steps that are over, in the lane as it is then.
abbrev pub entry_over : LaneView → Doing → Entry
entry_over v doing =
    steps_entry v.lane doing.number doing.actor (request_of doing.steps.ask) (done_of doing.steps.ask) doing.before v.grains.faults
    (take doing.steps.made doing.steps.planned.moves) doing.steps.calls doing.steps.stop
