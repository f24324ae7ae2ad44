use Rattle.std.proofs.Common.{◌≡◌, take}
use Rattle.fc_imaging.proofs.tables.volumes.Given as goal

abbrev pub invariant-loop-volume : goal.invariant-loop-volume
invariant-loop-volume l = l.copies ≡ take l.volume-index l.volumes
