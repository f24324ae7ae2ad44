use Rattle.std.proofs.Common.{ℕ, ◌<◌}
use Rattle.fc_check_steps.specs.Steps.{FailsAt}
use Rattle.fc_check_steps.proofs.ends.fails_somewhere.Given as goal

-- none of the steps so far did
abbrev pub invariant-loop-index : goal.invariant-loop-index
invariant-loop-index l = (k : ℕ) → k < l.index → FailsAt l.number l.steps l.entry k → ⊥
