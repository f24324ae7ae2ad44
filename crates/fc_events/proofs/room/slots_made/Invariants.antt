use Rattle.std.proofs.Common.{◌≡◌, take, sum_by}
use Rattle.fc_events.specs.Room.{slots_made}
use Rattle.fc_events.proofs.room.slots_made.Given as goal

-- the events so far
abbrev pub invariant-loop-event : goal.invariant-loop-event
invariant-loop-event l = l.sum ≡ sum_by slots_made (take l.event-index l.events)
