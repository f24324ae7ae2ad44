use Rattle.std.proofs.Common.{◌≡◌, ◌+◌, take}
use Rattle.fc_rules.specs.Steps.{calls_of_steps}
use Rattle.fc_check_steps.proofs.ends.calls_left.Given as goal

-- what is left when the steps so far made theirs
abbrev pub invariant-loop-step : goal.invariant-loop-step
invariant-loop-step l = l.left + calls_of_steps (take l.step-index l.steps) ≡ l.calls
