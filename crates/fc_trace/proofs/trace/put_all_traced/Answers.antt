use Rattle.std.proofs.Common.{false, arith}
use Rattle.fc_entry.proofs.WrittenLemmas.{Written-more_from, Written-stopped_from}
use Rattle.fc_trace.specs.Trace.{traced_text}
use Rattle.fc_trace.proofs.trace.put_all_traced.Goals as goal

pub returns-in-Err : goal.returns-in-Err
returns-in-Err g c =
    Written-stopped_from (traced_text c.args.history.now.actors) c.args.history.now.entries c.args.from c.loop-index.index _ _ _
    c.loop-index.invariant.0 (omega (arith, c.len-index-end.ensures)) c.loop-index.invariant.1 c.in-Err.ensures

pub loop-index-preserved : goal.loop-index-preserved
loop-index-preserved g c = (
  omega (arith, c.loop-index.invariant.0),
  Written-more_from (traced_text c.args.history.now.actors) c.args.history.now.entries c.args.from c.loop-index.index _ _ false _
      c.loop-index.invariant.0 (omega (arith, c.len-index-end.ensures)) c.loop-index.invariant.1 c.in-Ok.ensures,
)
