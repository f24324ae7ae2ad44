use Rattle.fc_loops.specs.Links.{LeastStep}
use Rattle.fc_loops.proofs.loops.next_node.Given as goal

-- the least of the first links
abbrev pub invariant-loop-link : goal.invariant-loop-link
invariant-loop-link l = LeastStep l.links l.here l.mark l.marks l.link-index l.best
