use Rattle.std.proofs.Common.{◌++◌, false, codes}
use Rattle.fc_entry.proofs.WrittenLemmas.{Written-more, Written-stopped}
use Rattle.fc_base.specs.declared.ranges.Range.{Range}
use Rattle.fc_trace.specs.Notes.{range_text}
use Rattle.fc_trace.proofs.ranges.put_next_ranges.Goals as goal

pub returns-in-Err : goal.returns-in-Err
returns-in-Err g c =
    Written-stopped (λ (range : Range). codes "," ++ range_text range) c.args.ranges.now c.loop-range.range-index (record { first = 0; last = 0 }) _ _ _ c.loop-range-test.true c.loop-range.invariant c.in-Err.ensures

pub loop-range-preserved : goal.loop-range-preserved
loop-range-preserved g c =
    Written-more (λ (range : Range). codes "," ++ range_text range) c.args.ranges.now c.loop-range.range-index (record { first = 0; last = 0 }) _ _ false _ c.loop-range-test.true c.loop-range.invariant c.in-Ok.ensures
