use Rattle.fc_loops.specs.Joins.{AreLinked}
use Rattle.fc_loops.proofs.links.list_links.Given as goal

-- the first rows have made their links
abbrev pub invariant-loop-place : goal.invariant-loop-place
invariant-loop-place l = AreLinked l.rows l.volumes l.links.items l.place 0
