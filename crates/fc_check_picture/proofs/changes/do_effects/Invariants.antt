use Rattle.std.proofs.Common.{◌≡◌, drop}
use Rattle.fc_entry.specs.PlainStep.{after_effects}
use Rattle.fc_check_picture.proofs.changes.do_effects.Given as goal

-- the effects so far are done
abbrev pub invariant-loop-effect : goal.invariant-loop-effect
invariant-loop-effect g l = after_effects l.size l.volumes.items (drop l.effect-index l.effects) ≡ after_effects l.size l.initial.volumes.items l.effects
