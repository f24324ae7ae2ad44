use Rattle.std.proofs.Common.{◌≡◌, map, take}
use Rattle.fc_check_lane.specs.Known.{size_of}
use Rattle.fc_check_record.proofs.tables.volume_sizes.Given as goal

-- the volumes so far
abbrev pub invariant-loop-volume : goal.invariant-loop-volume
invariant-loop-volume l = l.sizes.items ≡ map size_of (take l.volume-index l.volumes)
