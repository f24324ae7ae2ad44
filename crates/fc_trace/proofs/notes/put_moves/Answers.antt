use Rattle.std.proofs.Common.{false}
use Rattle.fc_entry.proofs.WrittenLemmas.{Written-more, Written-stopped}
use Rattle.fc_trace.specs.Notes.{move_text}
use Rattle.fc_trace.proofs.notes.put_moves.Goals as goal

pub returns-in-Err : goal.returns-in-Err
returns-in-Err g c =
    Written-stopped move_text c.args.moves.now c.loop-made.made-index (record { slot = record { 0 = 0 }; volume = record { 0 = 0 }; grain = record { 0 = 0 }; in_place = false }) _ _ _ c.loop-made-test.true c.loop-made.invariant c.in-Err.ensures

pub loop-made-preserved : goal.loop-made-preserved
loop-made-preserved g c =
    Written-more move_text c.args.moves.now c.loop-made.made-index (record { slot = record { 0 = 0 }; volume = record { 0 = 0 }; grain = record { 0 = 0 }; in_place = false }) _ _ false _ c.loop-made-test.true c.loop-made.invariant c.in-Ok.ensures
