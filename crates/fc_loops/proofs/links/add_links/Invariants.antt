use Rattle.std.proofs.Common.{◌<◌, ◌-◌, length}
use Rattle.fc_loops.specs.Joins.{AreLinked}
use Rattle.fc_loops.proofs.links.add_links.Given as goal

-- the rows between have made their links
abbrev pub invariant-loop-links : goal.invariant-loop-links
invariant-loop-links l = record {
  behind : l.place < l.behind;
  linked : AreLinked l.rows l.volumes l.links.items l.place l.behind;
}

abbrev pub decreases-loop-links : goal.decreases-loop-links
decreases-loop-links l = length l.rows - l.behind
