use Rattle.std.proofs.Common.{arith}
use Rattle.fc_recovered.proofs.Making.{one_more, handed_back}
use Rattle.fc_recovered.proofs.recovered.ready_all.Goals as goal

pub loop-lane-preserved : goal.loop-lane-preserved
loop-lane-preserved g c =
    one_more c.args.grain c.args.volumes.now c.args.disks.items c.loop-lane.disks.items c.loop-lane.lane c.len-lanes.result c.index_mut.result.now c.ready.new.self
    c.loop-lane-test.true (omega (arith, c.len-lanes.ensures, c.args.disks.ok.0)) c.index_mut.ensures.value c.in-Ok.ensures.ok c.loop-lane.invariant

pub returns-in-Err-clause-err : goal.returns-in-Err-clause-err
returns-in-Err-clause-err g c =
    handed_back c.args.grain c.args.volumes.now c.args.disks.items c.loop-lane.disks.items c.loop-lane.lane c.len-lanes.result c.index_mut.result.now c.ready.new.self
    c.loop-lane-test.true (omega (arith, c.len-lanes.ensures, c.args.disks.ok.0)) c.index_mut.ensures.value c.in-Err.ensures.err c.loop-lane.invariant
