use Rattle.std.proofs.Common.{ℕ, ◌<◌, ◌≤◌, get_or}
use Rattle.fc_base.specs.declared.decision.LaneEvent.{LaneEvent}
use Rattle.fc_events.specs.LaneGrains.{AreNumbered, lane_grains}
use Rattle.fc_events.specs.Room.{grains_come}
use Rattle.fc_events.proofs.room.widest.Given as goal

-- the events so far
abbrev pub invariant-loop-event : goal.invariant-loop-event
invariant-loop-event l = record {
  come : (k : ℕ) (d : LaneEvent) → k < l.event-index → grains_come (lane_grains l.lane l.lanes) (get_or l.events k d) ≤ l.most;
  numbered : AreNumbered l.lane l.lanes l.most;
}
