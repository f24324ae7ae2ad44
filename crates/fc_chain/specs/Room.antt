-- Room for the events of a command.
use Rattle.std.specs.Prelude.{◌≤◌, List, sum_by, All}
use Rattle.fc_base.specs.declared.decision.LaneEvent.{LaneEvent}
use Rattle.fc_chain.specs.Chains.{Chains}
use Rattle.fc_events.specs.LaneGrains.{lane_grains}
pub use Rattle.fc_events.specs.Room.{slots_made, grains_come}

-- The chains have room for all the slots that the events can make.
pub record HasRoomFor (c : Chains) (events : List LaneEvent) : Type 0 where
  pub slots : sum_by slots_made events ≤ c.room
  pub grains : All (λ e. grains_come (lane_grains c.lane c.lanes) e ≤ c.width) events
