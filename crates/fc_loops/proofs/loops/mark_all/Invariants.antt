use Rattle.std.proofs.Common.{◌+◌, ◌≤◌, length}
use Rattle.fc_loops.specs.Routes.{AreMarkedTo}
use Rattle.fc_loops.specs.Links.{HasLink, unmarked}
use Rattle.fc_loops.proofs.loops.mark_all.Given as goal

abbrev pub invariant-loop-level : goal.invariant-loop-level
invariant-loop-level l = record {
  so_far : AreMarkedTo (HasLink l.links) l.start l.level l.marks;
  room : l.level + unmarked l.marks ≤ length l.marks;
}

abbrev pub decreases-loop-level : goal.decreases-loop-level
decreases-loop-level l = unmarked l.marks
