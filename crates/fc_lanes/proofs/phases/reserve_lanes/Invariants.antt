use Rattle.fc_lanes.proofs.PhaseLanes.{EachBelow, IsMadeReady}
use Rattle.fc_lanes.proofs.phases.reserve_lanes.Given as goal

abbrev pub invariant-loop-place : goal.invariant-loop-place
invariant-loop-place g l = EachBelow (IsMadeReady l.events) l.place l.fn.lanes l.lanes
