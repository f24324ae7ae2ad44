use Rattle.std.proofs.Common.{◌≡◌, map, take}
use Rattle.fc_imaging.specs.Imaging.{lost_of}
use Rattle.fc_kept.specs.Images.{lost_told}
use Rattle.fc_imaging.proofs.lost.lost.Given as goal

abbrev pub invariant-loop-volume : goal.invariant-loop-volume
invariant-loop-volume g l = l.rows ≡ map lost_told (map (lost_of l.lanes) (take l.volume-index l.volumes))
