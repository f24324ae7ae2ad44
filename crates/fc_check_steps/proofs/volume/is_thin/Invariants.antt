use Rattle.std.proofs.Common.{◌≡◌, drop}
use Rattle.fc_rules.specs.LaneTold.{is_thin_in}
use Rattle.fc_check_steps.proofs.volume.is_thin.Given as goal

-- none of the volumes so far has this id
abbrev pub invariant-loop-volume : goal.invariant-loop-volume
invariant-loop-volume l = is_thin_in (drop l.volume-index l.volumes) l.id.0 ≡ is_thin_in l.volumes l.id.0
