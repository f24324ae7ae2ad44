use Rattle.std.proofs.Common.{◌≡◌, take}
use Rattle.fc_check_lane.proofs.copy.copy_volumes.Given as goal

-- the volumes so far
abbrev pub invariant-loop-volume : goal.invariant-loop-volume
invariant-loop-volume l = l.copy.items ≡ take l.volume-index l.volumes
