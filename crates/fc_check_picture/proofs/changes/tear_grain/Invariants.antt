use Rattle.std.proofs.Common.{◌≡◌, ◌++◌, map, take, drop}
use Rattle.fc_plain.specs.Changes.{tear_if}
use Rattle.fc_check_picture.proofs.changes.tear_grain.Given as goal

-- the volumes so far are changed, the others as they were
abbrev pub invariant-loop-volume : goal.invariant-loop-volume
invariant-loop-volume g l = l.volumes ≡ map (tear_if l.torn) (take l.volume-index l.initial.volumes) ++ drop l.volume-index l.initial.volumes
