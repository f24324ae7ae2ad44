use Rattle.std.proofs.Common.{◌++◌, false, codes, decimal}
use Rattle.fc_entry.proofs.WrittenLemmas.{Written-more, Written-stopped}
use Rattle.fc_trace.specs.declared.header.LaneDisks.{LaneDisks}
use Rattle.fc_trace.specs.Trace.{disks_of}
use Rattle.fc_trace.proofs.header.put_counts.Goals as goal

pub returns-in-Err : goal.returns-in-Err
returns-in-Err g c =
    Written-stopped (λ (lane : LaneDisks). codes " " ++ decimal (disks_of c.args.kind lane)) c.args.lanes.now c.loop-lane.lane-index (record { flat = 0; thin = 0 }) _ _ _ c.loop-lane-test.true c.loop-lane.invariant (rw c.of.ensures at c.in-Err.ensures)

pub loop-lane-preserved : goal.loop-lane-preserved
loop-lane-preserved g c =
    Written-more (λ (lane : LaneDisks). codes " " ++ decimal (disks_of c.args.kind lane)) c.args.lanes.now c.loop-lane.lane-index (record { flat = 0; thin = 0 }) _ _ false _ c.loop-lane-test.true c.loop-lane.invariant (rw c.of.ensures at c.in-Ok.ensures)
