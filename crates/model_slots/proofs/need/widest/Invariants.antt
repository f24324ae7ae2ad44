use Rattle.model_slots.proofs.Needs.{WidthSoFar}
use Rattle.model_slots.proofs.need.widest.Given as goal

-- the most so far
abbrev pub invariant-loop-place : goal.invariant-loop-place
invariant-loop-place l = WidthSoFar l.slots l.place l.width
