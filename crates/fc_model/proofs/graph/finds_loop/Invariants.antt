use Rattle.std.proofs.Common.{length}
use Rattle.fc_base.specs.Sheet.{shape_of}
use Rattle.fc_model.proofs.Loops.{AllGrounded}
use Rattle.fc_model.proofs.graph.finds_loop.Given as goal

-- all others are on no loop
abbrev pub invariant-loop-place : goal.invariant-loop-place
invariant-loop-place l = AllGrounded (shape_of l.slots) l.left.items

abbrev pub decreases-loop-place : goal.decreases-loop-place
decreases-loop-place l = length l.left.items
