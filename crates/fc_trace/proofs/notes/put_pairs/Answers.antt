use Rattle.std.proofs.Common.{false}
use Rattle.fc_entry.proofs.WrittenLemmas.{Written-more, Written-stopped}
use Rattle.fc_trace.specs.Notes.{pair_text}
use Rattle.fc_trace.proofs.notes.put_pairs.Goals as goal

pub returns-in-Err : goal.returns-in-Err
returns-in-Err g c =
    Written-stopped pair_text c.args.pairs.now c.loop-pair.pair-index (record { map = record { 0 = 0 }; source = record { 0 = 0 }; target = record { 0 = 0 }; incremental = false }) _ _ _ c.loop-pair-test.true c.loop-pair.invariant c.in-Err.ensures

pub loop-pair-preserved : goal.loop-pair-preserved
loop-pair-preserved g c =
    Written-more pair_text c.args.pairs.now c.loop-pair.pair-index (record { map = record { 0 = 0 }; source = record { 0 = 0 }; target = record { 0 = 0 }; incremental = false }) _ _ false _ c.loop-pair-test.true c.loop-pair.invariant c.in-Ok.ensures
