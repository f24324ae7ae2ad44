-- What an event needs of a lane, and what it leaves.
use Rattle.std.specs.Prelude.{◌≡◌, ◌+◌, ◌≤◌}
use Rattle.fc_base.specs.declared.decision.LaneEvent.{LaneEvent}
use Rattle.fc_chain.specs.Chains.{lane_grains}
use Rattle.fc_chain.specs.Room.{slots_made}
use Rattle.fc_follow.specs.Following.{restarts, rows_event}
use Rattle.fc_grains.specs.Quiet.{IsQuiet}
use Rattle.fc_apply.specs.Events.{CanFollow, chains_after}
use Rattle.fc_lane.specs.Lane.{LaneView, of}
use Rattle.fc_apply.specs.Parts.{ArmsNot, CanDo, HasDone, IdleAfter}
use Rattle.fc_steps.specs.Standing.{SameVolumes}

-- It can be done.
pub record CanApply (v : LaneView) (e : LaneEvent) : Type 0 where
  pub follow : CanFollow v.chains v.changes e
  pub same : SameVolumes v.grains.volumes v.accesses.volumes
  pub can : CanDo (of v) v.grains v.accesses v.work e

-- It was done.
pub record HasApplied (old : LaneView) (e : LaneEvent) (new : LaneView) : Type 0 where
  pub lane : new.lane ≡ old.lane
  pub lanes : new.lanes ≡ old.lanes
  pub chains : new.chains ≡ record old.chains { sheet = chains_after (restarts old.changes.rows) (lane_grains old.chains.lane old.chains.lanes) old.chains.sheet e; room = new.chains.room }
  pub room : old.chains.room ≤ new.chains.room + slots_made e
  pub rows : new.changes.rows ≡ rows_event old.chains.sheet.slots old.changes.rows e
  pub done : HasDone (of old) old.grains old.accesses old.work e new.grains new.accesses new.work
  pub quiet : IsQuiet old.grains → ArmsNot e → IsQuiet new.grains
  pub idle : IdleAfter old.grains new.grains
  pub plan_room : new.plan_room ≡ old.plan_room
  pub entry_room : new.entry_room ≡ old.entry_room
