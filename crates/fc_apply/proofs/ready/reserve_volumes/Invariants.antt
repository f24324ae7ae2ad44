use Rattle.std.proofs.Common.{drop}
use Rattle.fc_steps.specs.Standing.{lane_of}
use Rattle.fc_apply.proofs.Readying.{Reserving}
use Rattle.fc_apply.proofs.ready.reserve_volumes.Given as goal

-- the volumes before this event are ready
abbrev pub invariant-loop-event : goal.invariant-loop-event
invariant-loop-event g l = Reserving (lane_of l.lane l.lanes l.initial.grains.grain) l.initial.grains l.events l.grains (drop l.event-index l.events)
