-- The events so far.
use Rattle.std.proofs.Common.{◌≡◌, ◌≤◌, take}
use Rattle.fc_desk.specs.Changes.{works}
use Rattle.fc_desk.proofs.apply.count_works.Given as goal

abbrev pub invariant-loop-event : goal.invariant-loop-event
invariant-loop-event l = (l.count ≡ works (take l.event-index l.events)) × (l.count ≤ l.event-index)
