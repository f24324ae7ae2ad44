-- The grains of the volumes so far, each with fewer than 2^32.
use Rattle.std.proofs.Common.{◌≡◌, ◌≤◌, ◌*◌, ◌^◌, take}
use Rattle.fc_entry.specs.Refused.{all_grains}
use Rattle.fc_objects.proofs.mkvdisk.all_grains.Given as goal

abbrev pub invariant-loop-volume : goal.invariant-loop-volume
invariant-loop-volume l = (l.sum ≡ all_grains (take l.volume-index l.volumes)) × (l.sum ≤ l.volume-index * 2 ^ 32)
