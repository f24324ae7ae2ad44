use Rattle.std.proofs.Common.{arith}
use Rattle.fc_loops.proofs.LoopRows.{live_row_found, live_row_none}
use Rattle.fc_loops.proofs.rows.place_of.Goals as goal

pub returns-then-row-volume-clause-value : goal.returns-then-row-volume-clause-value
returns-then-row-volume-clause-value c = live_row_found _ _ c.loop-place.place c.loop-place-test.true c.if-row.true c.if-row-volume.true c.loop-place.invariant

pub returns-clause-value : goal.returns-clause-value
returns-clause-value c = live_row_none _ _ c.loop-place.place (omega arith) c.loop-place.invariant
