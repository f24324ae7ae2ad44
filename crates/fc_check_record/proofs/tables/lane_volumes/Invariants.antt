use Rattle.std.proofs.Common.{◌≡◌, map, take}
use Rattle.fc_legal.specs.Whole.{volume_told}
use Rattle.fc_check_record.proofs.tables.lane_volumes.Given as goal

-- the volumes so far
abbrev pub invariant-loop-volume : goal.invariant-loop-volume
invariant-loop-volume l = l.volumes.items ≡ map (volume_told l.tables.tables) (take l.volume-index l.tables.tables.volumes)
