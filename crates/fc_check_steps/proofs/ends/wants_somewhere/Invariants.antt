use Rattle.std.proofs.Common.{ℕ, ◌<◌}
use Rattle.fc_check_steps.specs.Steps.{WantsAt}
use Rattle.fc_check_steps.proofs.ends.wants_somewhere.Given as goal

-- none of the steps so far did
abbrev pub invariant-loop-index : goal.invariant-loop-index
invariant-loop-index l = (k : ℕ) → k < l.index → WantsAt l.volumes l.steps l.entry k → ⊥
