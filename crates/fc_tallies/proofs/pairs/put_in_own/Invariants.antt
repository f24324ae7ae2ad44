use Rattle.std.proofs.Common.{◌≤◌, length}
use Rattle.fc_tallies.specs.Tallies.{tally_of, tally_at}
use Rattle.fc_events.proofs.Volumes.{AreDone}
use Rattle.fc_tallies.proofs.OwnCounts.{but_own}
use Rattle.fc_tallies.proofs.pairs.put_in_own.Given as goal

-- the slots so far are done
abbrev pub invariant-loop-entry : goal.invariant-loop-entry
invariant-loop-entry l = record {
  room : length l.slots ≤ length l.tallies;
  done : AreDone l.entries (but_own l.slots l.change.grain l.change.volume) (tally_of l.slots) (length l.slots) l.entry-index (tally_at l.tallies);
}
