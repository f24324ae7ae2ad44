-- A lane as contracts see it, and when it stands for what is told.
use Rattle.std.specs.Prelude.{◌≡◌, ℕ, ◌<◌, ◌≤◌, ◌^◌, List, Option, Contains}
use Rattle.fc_base.specs.declared.decision.LaneEvent.{LaneEvent}
use Rattle.fc_base.specs.declared.decision.LaneEvent.TheVariants.{Arm}
use Rattle.fc_base.specs.declared.ids.GrainNo.{GrainNo}
use Rattle.fc_base.specs.declared.ids.VolId.{VolId}
use Rattle.fc_base.specs.declared.request.Request.{Request}
use Rattle.fc_base.specs.declared.request.Torn.{Torn}
use Rattle.fc_chain.specs.Chains.{Chains}
use Rattle.fc_chain.specs.Planning.{volume_count}
use Rattle.fc_diff.specs.State.{ChangesState}
use Rattle.fc_entry.specs.declared.entry.Entry.{Entry}
use Rattle.fc_follow.specs.Alike.{AreAlike}
use Rattle.fc_follow.specs.Following.{Followed}
use Rattle.fc_grains.specs.Grains.{GrainsState, stopped}
use Rattle.fc_grains.specs.Quiet.{IsQuiet}
use Rattle.fc_grains.specs.Volumes.{ComeNearer, rooms_of}
use Rattle.fc_pick.specs.Flags.{WorkState}
use Rattle.fc_apply.specs.Accesses.{AccessState}
use Rattle.fc_apply.specs.Events.{AreRowsReady}
use Rattle.fc_apply.specs.Parts.{StandsFor, IsReadyFor}
use Rattle.fc_steps.specs.Moving.{IsTornBy}
use Rattle.fc_steps.specs.Standing.{lane_of}
use Rattle.fc_rules.specs.LaneTold.{LaneOf, LaneTold, nothing_told}

-- Which lane it is, of how many; its chains, the physical grains of its volumes, how hosts reach each volume, the background
-- work, and the changed grains of incremental mappings; and for how many moves there is room in the next plan and in the next
-- entry.
pub record LaneView : Type 0 where
  pub lane : ℕ
  pub lanes : ℕ
  pub chains : Chains
  pub grains : GrainsState
  pub accesses : AccessState
  pub work : WorkState
  pub changes : ChangesState
  pub plan_room : ℕ
  pub entry_room : ℕ

abbrev pub of : LaneView → LaneOf
of v = lane_of v.lane v.lanes v.grains.grain

-- The parts stand for what is told, and so do the faults and calls of all disks, up to 2^64 - 1.
pub record IsLaneOf (v : LaneView) (told : LaneTold) : Type 0 where
  pub parts : StandsFor (of v) v.chains v.grains v.accesses v.work told
  pub faults : v.grains.faults ≡ told.faults
  pub calls : v.grains.calls ≡ stopped told.calls

-- It stands for what it is told, with what is kept of incremental mappings, and at their rows' grains both volumes are alike;
-- and its disks use memory for the grains that are told.
pub record IsFollowing (v : LaneView) (f : Followed) : Type 0 where
  pub lane : IsLaneOf v f.told
  pub rows : v.changes.rows ≡ f.rows
  pub alike : AreAlike f
  pub rooms : rooms_of v.grains.volumes ≡ f.rooms

-- The next entry takes no memory: there is room for one move per volume, in the plan and in the entry; and the calls of so many
-- moves can be counted.
pub record IsReady (v : LaneView) : Type 0 where
  pub few : volume_count v.chains.sheet.slots < 2 ^ 30
  pub plan : volume_count v.chains.sheet.slots ≤ v.plan_room
  pub entry : volume_count v.chains.sheet.slots ≤ v.entry_room

-- Events can be done without taking memory.
pub record CanDoEvents (v : LaneView) (events : List LaneEvent) : Type 0 where
  pub parts : IsReadyFor (of v) v.chains v.grains v.accesses v.work events
  pub rows : AreRowsReady v.chains.sheet.slots v.changes events

-- Which lane it is stays.
pub record IsSameLane (old new : LaneView) : Type 0 where
  pub lane : new.lane ≡ old.lane
  pub lanes : new.lanes ≡ old.lanes
  pub grain : new.grains.grain ≡ old.grains.grain
  pub disks : new.grains.disks ≡ old.grains.disks
  pub silent : new.grains.silent ≡ old.grains.silent

-- What an entry does to the disks beside what it tells, by the calls that it made and the grain that it left torn: armed
-- faults come nearer by these calls alone, and none is armed; a grain is torn by a write that failed alone; the disks that no
-- volume has stay as they are.
pub record KeepsDisks (calls : ℕ) (torn : Option Torn) (old new : GrainsState) : Type 0 where
  pub nearer : ComeNearer calls old.volumes new.volumes
  pub torn_by_write : IsTornBy torn old new
  pub pooled : new.pooled ≡ old.pooled
  pub aside : new.aside ≡ old.aside

-- Where no disk can fail, none does.
abbrev pub KeepsQuiet : LaneView → LaneView → Type 0
KeepsQuiet old new = IsQuiet old.grains → IsQuiet new.grains × (new.grains.faults ≡ old.grains.faults)

-- No fault is armed by these events.
abbrev pub ArmsNone : List LaneEvent → Type 0
ArmsNone events = (volume : VolId) (grain : GrainNo) (calls : ℕ) → Contains events (Arm volume grain calls) → ⊥

-- Who asked what, by which number.
pub record IsAsked (number actor : ℕ) (request : Request) (entry : Entry) : Type 0 where
  pub number_is : entry.number ≡ number
  pub actor_is : entry.actor ≡ actor
  pub request_is : entry.request ≡ request

-- A lane that begins, over disks of this state, tells of no volume.
abbrev pub begun : GrainsState → LaneTold
begun grains = record nothing_told { pool = grains.pool; faults = grains.faults; calls = grains.calls }
