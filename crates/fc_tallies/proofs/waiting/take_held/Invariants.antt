use Rattle.std.proofs.Common.{◌≡◌, ◌*◌}
use Rattle.fc_base.specs.Counts.{count_below}
use Rattle.fc_tallies.proofs.Words.{IsMadeUpTo, left_of, both_set}
use Rattle.fc_tallies.proofs.waiting.take_held.Given as goal

-- the words so far are done and their common bits counted
abbrev pub invariant-loop-index : goal.invariant-loop-index
invariant-loop-index l = record {
  made : IsMadeUpTo (left_of l.initial.waiting l.held) l.initial.waiting l.waiting l.index;
  counted : l.count ≡ count_below (both_set l.initial.waiting l.held) (64 * l.index);
}
