use Rattle.std.proofs.Common.{◌≡◌, take, map}
use Rattle.fc_check_lane.specs.Steps.{step_of}
use Rattle.fc_check_lane.proofs.steps.steps_of.Given as goal

-- the steps of the moves so far
abbrev pub invariant-loop-moved : goal.invariant-loop-moved
invariant-loop-moved l = l.steps.items ≡ map (step_of l.picture) (take l.moved-index l.moves)
