use Rattle.std.proofs.Common.{◌≡◌, ◌++◌, ◌+◌, ◌-◌, length}
use Rattle.fc_base.specs.Counts.{names_below, is_direct}
use Rattle.fc_tallies.proofs.Direct.{Left, WalkAt}
use Rattle.fc_tallies.proofs.count.add_readers.Given as goal

-- the readers so far are listed, and what is left is what this one reads
abbrev pub invariant-loop-remaining : goal.invariant-loop-remaining
invariant-loop-remaining l = record {
  walk : WalkAt l.slots l.place l.reader;
  left : Left l.slots l.place l.reader l.left l.remaining;
  listed : l.out ≡ l.fn.out ++ names_below l.slots (is_direct l.slots l.place) (l.reader + 1);
}

abbrev pub decreases-loop-remaining : goal.decreases-loop-remaining
decreases-loop-remaining l = length l.slots - l.reader
