use Rattle.std.proofs.Common.{arith}
use Rattle.fc_check_record.proofs.Pooling.{taken_more}
use Rattle.fc_check_record.proofs.pools.take_disks.Goals as goal

pub loop-pool-preserved : goal.loop-pool-preserved
loop-pool-preserved c = let h = c.take_disk.ensures in taken_more c.args.kind c.args.pools.now c.loop-pool.pools c.loop-pool.pool-index _ c.take_disk.new.pool c.loop-pool.invariant (omega arith) (omega arith) c.take_disk.ensures
