-- What was pushed, and what is left.
use Rattle.std.proofs.Common.{length}
use Rattle.fc_merge.specs.Merging.{all_of}
use Rattle.fc_merge.proofs.Whole.{IsMerging}
use Rattle.fc_merge.proofs.merging.merge.Given as goal

abbrev pub invariant-loop-entry : goal.invariant-loop-entry
invariant-loop-entry l = IsMerging l.fn.history l.fn.lists l.history l.lists

abbrev pub decreases-loop-entry : goal.decreases-loop-entry
decreases-loop-entry l = length (all_of l.lists)
