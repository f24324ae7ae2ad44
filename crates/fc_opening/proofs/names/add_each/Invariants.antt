-- The names of the actors so far.
use Rattle.std.proofs.Common.{◌≡◌, take}
use Rattle.fc_legal.specs.Scripts.{names_with}
use Rattle.fc_opening.proofs.names.add_each.Given as goal

abbrev pub invariant-loop-actor : goal.invariant-loop-actor
invariant-loop-actor l = l.history ≡ record l.initial.history { actors = names_with l.initial.history.actors (take l.actor-index l.actors) }
