use Rattle.std.proofs.Common.{◌+◌, ◌∙◌}
use Rattle.fc_grains.specs.Grains.{stopped}
use Rattle.fc_grains.proofs.Adding.{added}
use Rattle.fc_grains.proofs.sums.sums_of.Goals as goal

pub loop-disk-preserved : goal.loop-disk-preserved
loop-disk-preserved g c =
    added g.D.Mdisk.meaning c.args.disks.now c.loop-disk.disk-index c.disk-item.result c.loop-disk.sums c.add.new.self c.loop-disk-test.true c.disk-item.is c.loop-disk.invariant
    (c.add.ensures.calls ∙ (λ k. stopped (c.loop-disk.sums.calls + c.calls.ensures k)))
    (c.add.ensures.faults ∙ (λ k. stopped (c.loop-disk.sums.faults + c.faults.ensures k)))
    (c.add.ensures.write_faults ∙ (λ k. stopped (c.loop-disk.sums.write_faults + c.write_faults.ensures k)))
