use Rattle.std.proofs.Common.{◌≡◌, take, map}
use Rattle.fc_base.specs.Plan.{move_at}
use Rattle.model_slots.proofs.moves.moves_of.Given as goal

-- the moves so far
abbrev pub invariant-loop-place : goal.invariant-loop-place
invariant-loop-place l = l.moves ≡ map (move_at l.slots l.grain l.number.0) (take l.place-index l.places)
