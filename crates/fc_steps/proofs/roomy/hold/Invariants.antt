use Rattle.std.proofs.Common.{◌≡◌, take}
use Rattle.fc_steps.proofs.roomy.hold.Given as goal

-- the moves before this one are in it
abbrev pub invariant-loop-mv : goal.invariant-loop-mv
invariant-loop-mv l = (l.plan.moves ≡ take l.mv-index l.moves) × (l.plan.room ≡ l.initial.plan.room)
