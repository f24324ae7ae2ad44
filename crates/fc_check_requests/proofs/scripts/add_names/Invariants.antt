use Rattle.std.proofs.Common.{◌≡◌, take}
use Rattle.fc_legal.specs.Scripts.{names_with}
use Rattle.fc_check_requests.proofs.scripts.add_names.Given as goal

-- the names of the actors before this one have come
abbrev pub invariant-loop-actor : goal.invariant-loop-actor
invariant-loop-actor l = l.names.items ≡ names_with l.initial.names.items (take l.actor-index l.actors)
