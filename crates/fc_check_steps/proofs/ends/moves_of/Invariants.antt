use Rattle.std.proofs.Common.{◌≡◌, take}
use Rattle.fc_rules.specs.Steps.{moves_of}
use Rattle.fc_check_steps.proofs.ends.moves_of.Given as goal

-- the moves of the steps so far
abbrev pub invariant-loop-step : goal.invariant-loop-step
invariant-loop-step l = l.moves.items ≡ moves_of (take l.step-index l.steps)
