use Rattle.std.proofs.Common.{◌≡◌, ◌<◌, length}
use Rattle.fc_loops.specs.Routes.{mark_at}
use Rattle.fc_loops.specs.Links.{HasLink}
use Rattle.fc_loops.proofs.LoopWalk.{GoesOn}
use Rattle.fc_loops.proofs.loops.walk.Given as goal

-- from here so many links are left
abbrev pub invariant-loop-left : goal.invariant-loop-left
invariant-loop-left l = record {
  there : l.here < length l.marks;
  mark_is : mark_at l.marks l.here ≡ l.left;
  some : 0 < l.left;
  so_far : GoesOn (HasLink l.links) l.start (mark_at l.marks l.start) l.nodes l.here l.left;
}

abbrev pub decreases-loop-left : goal.decreases-loop-left
decreases-loop-left l = l.left
