use Rattle.std.proofs.Common.{length}
use Rattle.fc_check_record.proofs.Agreeing.{one_first}
use Rattle.fc_check_record.proofs.Telling.{first_told}
use Rattle.fc_check_record.proofs.record.Record.open.Goals as goal

pub invariant_of-result : goal.invariant_of-result
invariant_of-result c =
    let n = length c.args.lanes.now in
    one_first c.args.grain n n c.new-2.result c.in_ok-known.known c.in_ok-calls.calls.items c.new-2.ensures c.in_ok-known.ensures c.in_ok-calls.ensures

pub returns : goal.returns
returns c =
    first_told c.args.grain c.args.lanes.now c.new-2.result c.in_ok-known.known c.new-3.result c.in_ok-pools.pools.items c.new-4.result c.in_ok-calls.calls.items c.new-2.ensures c.in_ok-known.ensures c.new-3.ensures
    c.in_ok-pools.ensures c.new-4.ensures c.in_ok-calls.ensures
