-- The scripts of the actors so far.
use Rattle.std.proofs.Common.{take}
use Rattle.fc_prepare.specs.Scripts.{AreScriptsOf}
use Rattle.fc_prepare.proofs.scripts.scripts_of.Given as goal

abbrev pub invariant-loop-actor : goal.invariant-loop-actor
invariant-loop-actor g l = AreScriptsOf l.store l.history.actors (take l.actor-index l.actors) l.scripts.items
