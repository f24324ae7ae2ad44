-- The entries before this one were counted.
use Rattle.std.proofs.Common.{◌≡◌, ◌≤◌, ◌*◌, ◌^◌, take}
use Rattle.fc_run.specs.Tallies.{tally_of}
use Rattle.fc_run.proofs.summary.tally_of.Given as goal

abbrev pub invariant-loop-index : goal.invariant-loop-index
invariant-loop-index l =
    (l.tally ≡ tally_of (take l.index l.history.entries)) × (l.tally.moves ≤ l.index * 2 ^ 64)
