use Rattle.std.proofs.Common.{◌≡◌, drop}
use Rattle.fc_check_sheet.specs.Distances.{distance_in}
use Rattle.fc_check_sheet.proofs.distances.distance_of.Given as goal

-- it is none of those so far
abbrev pub invariant-loop-distance : goal.invariant-loop-distance
invariant-loop-distance l = distance_in l.distances l.volume ≡ distance_in (drop l.distance-index l.distances) l.volume
