use Rattle.std.proofs.Common.{◌≡◌, ◌++◌, take}
use Rattle.fc_apart.proofs.effects.copy_behind.Given as goal

abbrev pub invariant-loop-effect : goal.invariant-loop-effect
invariant-loop-effect l = l.list ≡ l.fn.list ++ take l.effect-index l.effects
