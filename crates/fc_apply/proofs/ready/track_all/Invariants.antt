use Rattle.fc_apply.proofs.Readying.{Tracking}
use Rattle.fc_apply.proofs.ready.track_all.Given as goal

-- the mappings of the events before this one are known
abbrev pub invariant-loop-event : goal.invariant-loop-event
invariant-loop-event l = Tracking l.initial.work l.events l.event-index l.work
