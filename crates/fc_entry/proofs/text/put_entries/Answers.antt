use Rattle.std.proofs.Common.{false, arith}
use Rattle.fc_entry.specs.Text.{entry_text}
use Rattle.fc_entry.proofs.WrittenLemmas.{Written-more_from, Written-stopped_from}
use Rattle.fc_entry.proofs.text.put_entries.Goals as goal

pub returns-in-Err : goal.returns-in-Err
returns-in-Err g c =
    Written-stopped_from (entry_text c.args.history.now.actors) c.args.history.now.entries c.args.from c.loop-index.index _ _ _
    c.loop-index.invariant.0 (omega (arith, c.len-index-end.ensures)) c.loop-index.invariant.1 c.in-Err.ensures

pub loop-index-preserved : goal.loop-index-preserved
loop-index-preserved g c = (
  omega (arith, c.loop-index.invariant.0),
  Written-more_from (entry_text c.args.history.now.actors) c.args.history.now.entries c.args.from c.loop-index.index _ _ false _
      c.loop-index.invariant.0 (omega (arith, c.len-index-end.ensures)) c.loop-index.invariant.1 c.in-Ok.ensures,
)
