use Rattle.fc_loops.proofs.LoopRows.{row_behind, no_row_behind}
use Rattle.fc_loops.proofs.rows.has_behind.Goals as goal

pub returns-then-rows-behind : goal.returns-then-rows-behind
returns-then-rows-behind c = row_behind _ _ c.loop-behind.behind c.loop-behind.invariant.behind c.loop-behind-test.true c.if-rows-behind.true

pub returns : goal.returns
returns c = no_row_behind _ _ c.loop-behind.behind c.loop-behind-test.false c.loop-behind.invariant.none
