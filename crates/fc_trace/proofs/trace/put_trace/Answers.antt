use Rattle.fc_entry.proofs.WrittenLemmas.{Written-then, Written-cut}
use Rattle.fc_trace.specs.Trace.{header_text}
use Rattle.fc_trace.proofs.trace.put_trace.Goals as goal

pub returns-in_err-put_header : goal.returns-in_err-put_header
returns-in_err-put_header g c =
    rw c.from_residual.ensures.0 (Written-cut _ (header_text c.args.grain c.args.lanes.now) _ _ c.in_err-put_header.ensures)

pub returns : goal.returns
returns g c =
    Written-then _ (header_text c.args.grain c.args.lanes.now) _ _ _ _ c.in_ok-put_header.ensures c.put_all_traced.ensures
