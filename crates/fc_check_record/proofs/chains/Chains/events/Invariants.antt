use Rattle.std.proofs.Common.{◌≡◌, take}
use Rattle.fc_check_record.specs.Chains.{chains_after}
use Rattle.fc_check_record.proofs.chains.Chains.events.Given as goal

-- the events so far are done
abbrev pub invariant-loop-event : goal.invariant-loop-event
invariant-loop-event l = l.self ≡ chains_after l.initial.self (take l.event-index l.events)
