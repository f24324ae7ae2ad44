use Rattle.std.proofs.Common.{true, false}
use Rattle.fc_entry.proofs.WrittenLemmas.{Written-more, Written-put, Written-stopped}
use Rattle.fc_entry.proofs.parts.put_all.Goals as goal

pub returns-in-Err : goal.returns-in-Err
returns-in-Err g c =
    Written-stopped _ c.args.parts.now c.loop-part.part-index _ _ _ _ c.loop-part-test.true c.loop-part.invariant
    (Written-put _ _ true _ c.in-Err.ensures)

pub loop-part-preserved : goal.loop-part-preserved
loop-part-preserved g c =
    Written-more _ c.args.parts.now c.loop-part.part-index _ _ _ false _ c.loop-part-test.true c.loop-part.invariant
    (Written-put _ _ false _ c.in-Ok.ensures)
