use Rattle.std.proofs.Common.{◌≡◌, take}
use Rattle.fc_check_requests.proofs.copies.copy_actors.Given as goal

-- those before this one are copied
abbrev pub invariant-loop-actor : goal.invariant-loop-actor
invariant-loop-actor l = l.copy ≡ take l.actor-index l.actors
