use Rattle.std.proofs.Common.{◌≤◌, length}
use Rattle.fc_tallies.specs.Tallies.{tally_of, tally_at, tally_but}
use Rattle.fc_events.proofs.Volumes.{AreDone}
use Rattle.fc_tallies.proofs.pairs.leave_out_own.Given as goal

-- the slots so far are done
abbrev pub invariant-loop-entry : goal.invariant-loop-entry
invariant-loop-entry l = record {
  room : length l.slots ≤ length l.tallies;
  done : AreDone l.entries (tally_of l.slots) (tally_but l.slots l.change.grain) (length l.slots) l.entry-index (tally_at l.tallies);
}
