use Rattle.std.proofs.Common.{map, vec_len}
use Rattle.fc_grains.proofs.Pooling.{IsSorting}
use Rattle.fc_grains.proofs.queues.Queues.new.Given as goal

abbrev pub invariant-loop-disk : goal.invariant-loop-disk
invariant-loop-disk g l = IsSorting (map g.D.Mdisk.meaning l.fn.disks.items) (map g.D.Mdisk.meaning l.disks.items) l.queues

abbrev pub decreases-loop-disk : goal.decreases-loop-disk
decreases-loop-disk g l = vec_len l.disks
