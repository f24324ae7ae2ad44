use Rattle.std.proofs.Common.{◌≡◌, ◌+◌, drop}
use Rattle.fc_drawing.specs.Totals.{place_of}
use Rattle.fc_drawing.proofs.totals.place_of.Given as goal

-- it is none of those so far
abbrev pub invariant-loop-place : goal.invariant-loop-place
invariant-loop-place l = place_of l.from l.to (drop l.place l.pairs) + l.place ≡ place_of l.from l.to l.pairs
