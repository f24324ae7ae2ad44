use Rattle.std.proofs.Common.{◌≡◌}
use Rattle.fc_check_record.proofs.Pooling.{taken_until}
use Rattle.fc_check_sheet.specs.View.{pools_of}
use Rattle.fc_check_record.proofs.pools.take_disks.Given as goal

-- the lanes so far have one disk less
abbrev pub invariant-loop-pool : goal.invariant-loop-pool
invariant-loop-pool l = pools_of l.pools ≡ taken_until l.kind l.pool-index (pools_of l.initial.pools)
