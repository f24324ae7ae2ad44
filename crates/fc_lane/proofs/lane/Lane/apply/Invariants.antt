use Rattle.std.proofs.Common.{drop}
use Rattle.fc_lane.proofs.Applying.{Doing}
use Rattle.fc_lane.proofs.lane.Lane.apply.Given as goal

-- the events before this one were done
abbrev pub invariant-loop-event : goal.invariant-loop-event
invariant-loop-event g l = Doing l.initial.self l.events l.self (drop l.event-index l.events)
