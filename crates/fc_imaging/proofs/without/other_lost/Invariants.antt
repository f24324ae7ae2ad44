use Rattle.std.proofs.Common.{◌≡◌, filter, map, take}
use Rattle.fc_imaging.specs.Imaging.{lost_of}
use Rattle.fc_imaging.specs.Without.{is_other_row}
use Rattle.fc_kept.specs.Images.{lost_told}
use Rattle.fc_imaging.proofs.without.other_lost.Given as goal

abbrev pub invariant-loop-volume : goal.invariant-loop-volume
invariant-loop-volume g l = l.rows ≡ filter (is_other_row l.gone) (map lost_told (map (lost_of l.lanes) (take l.volume-index l.volumes)))
