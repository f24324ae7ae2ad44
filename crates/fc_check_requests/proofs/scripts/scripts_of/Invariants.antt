use Rattle.std.proofs.Common.{◌≡◌, take}
use Rattle.fc_legal.specs.Scripts.{scripts_of}
use Rattle.fc_legal.specs.Whole.{lanes}
use Rattle.fc_check_requests.proofs.scripts.scripts_of.Given as goal

-- the scripts of the actors before this one
abbrev pub invariant-loop-actor : goal.invariant-loop-actor
invariant-loop-actor g l = l.scripts.items ≡ scripts_of (g.T.Told.grain l.told) (lanes (g.T.Told.whole l.told)) (g.T.Told.whole l.told).books l.names (take l.actor-index l.actors)
