use Rattle.std.proofs.Common.{◌≡◌, filter, take}
use Rattle.fc_imaging.specs.Without.{is_other}
use Rattle.fc_imaging.proofs.without.other_volumes.Given as goal

abbrev pub invariant-loop-volume : goal.invariant-loop-volume
invariant-loop-volume l = l.copies ≡ filter (is_other l.gone) (take l.volume-index l.volumes)
