use Rattle.std.proofs.Common.{◌≡◌, take}
use Rattle.std.specs.List.{fold}
use Rattle.fc_books.specs.After.{pools_after}
use Rattle.fc_check_sheet.specs.View.{pools_of}
use Rattle.fc_check_record.proofs.pools.take_for_all.Given as goal

-- the events so far took theirs
abbrev pub invariant-loop-event : goal.invariant-loop-event
invariant-loop-event l = pools_of l.pools ≡ fold pools_after (pools_of l.initial.pools) (take l.event-index l.events)
