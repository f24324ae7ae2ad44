use Rattle.model_slots.proofs.Needs.{SoFar}
use Rattle.model_slots.proofs.need.dependents_of.Given as goal

-- the dependents so far
abbrev pub invariant-loop-place : goal.invariant-loop-place
invariant-loop-place l = SoFar l.slots l.on l.place l.listed
