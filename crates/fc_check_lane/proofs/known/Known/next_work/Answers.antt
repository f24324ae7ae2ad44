use Rattle.std.proofs.Common.{Some, false, refl, arith}
use Rattle.fc_check_lane.proofs.Turning.{next_found, next_none}
use Rattle.fc_check_lane.proofs.known.Known.next_work.Goals as goal

pub returns-in-Some : goal.returns-in-Some
returns-in-Some c =
    next_found c.args.work c.args.self.now c.args.lane c.loop-row.row-index c.work_flags-row-items.result.now (record { map = record { 0 = 0 }; copies = false; cleans = false }) c.in-Some.grain c.is_of.result (Some c.in-Some.grain)
    c.work_flags-row-items.ensures c.loop-row.invariant c.loop-row-test.true c.is_of.ensures c.if-is_of.true c.in-Some.ensures refl

pub returns : goal.returns
returns c = next_none c.args.work c.args.self.now c.args.lane c.loop-row.row-index c.work_flags-row-items.result.now c.work_flags-row-items.ensures (omega arith) c.loop-row.invariant
