use Rattle.fc_lanes.specs.AllLanes.{IsLaneAfter}
use Rattle.fc_lanes.proofs.PhaseLanes.{EachBelow}
use Rattle.fc_lanes.proofs.phases.apply_lanes.Given as goal

abbrev pub invariant-loop-place : goal.invariant-loop-place
invariant-loop-place g l = EachBelow (IsLaneAfter l.events) l.place l.fn.lanes l.lanes
