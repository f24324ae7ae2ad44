use Rattle.std.proofs.Common.{take, map}
use Rattle.fc_grains.specs.Kept.{AddUp}
use Rattle.fc_grains.proofs.sums.sums_of.Given as goal

abbrev pub invariant-loop-disk : goal.invariant-loop-disk
invariant-loop-disk g l = AddUp (take l.disk-index (map g.D.Mdisk.meaning l.disks)) l.sums
