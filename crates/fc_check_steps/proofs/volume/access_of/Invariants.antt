use Rattle.std.proofs.Common.{◌≡◌, drop}
use Rattle.fc_rules.specs.LaneTold.{lane_access}
use Rattle.fc_check_steps.proofs.volume.access_of.Given as goal

-- none of the volumes so far has this id
abbrev pub invariant-loop-volume : goal.invariant-loop-volume
invariant-loop-volume l = lane_access (drop l.volume-index l.volumes) l.id ≡ lane_access l.volumes l.id
