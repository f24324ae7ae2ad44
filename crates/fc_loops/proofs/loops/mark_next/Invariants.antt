use Rattle.std.proofs.Common.{◌≡◌, ◌<◌, true, false}
use Rattle.fc_loops.specs.Links.{unmarked}
use Rattle.fc_loops.proofs.LoopMarks.{Marking}
use Rattle.fc_loops.proofs.loops.mark_next.Given as goal

-- the first links are done
abbrev pub invariant-loop-link : goal.invariant-loop-link
invariant-loop-link l = record {
  marking : Marking l.links l.start l.level l.marks l.link-index;
  none : l.any ≡ false → l.marks ≡ l.initial.marks;
  some : l.any ≡ true → unmarked l.marks < unmarked l.initial.marks;
}
