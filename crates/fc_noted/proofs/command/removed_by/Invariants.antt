-- What is removed is removed from the event at hand on.
use Rattle.std.proofs.Common.{◌≡◌, drop}
use Rattle.law_noted.specs.Records.{removed_by}
use Rattle.fc_noted.proofs.command.removed_by.Given as goal

abbrev pub invariant-loop-event : goal.invariant-loop-event
invariant-loop-event l = removed_by l.event-items ≡ removed_by (drop l.event-index l.event-items)
