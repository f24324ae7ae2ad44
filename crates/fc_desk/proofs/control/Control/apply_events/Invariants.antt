-- What is left comes to the same as all.
use Rattle.std.proofs.Common.{drop}
use Rattle.fc_desk.proofs.Applying.{Flagging}
use Rattle.fc_desk.proofs.control.Control.apply_events.Given as goal

abbrev pub invariant-loop-event : goal.invariant-loop-event
invariant-loop-event l = Flagging l.initial.self l.events l.self (drop l.event-index l.events)
