use Rattle.std.proofs.Common.{arith}
use Rattle.fc_base.specs.Moves.{next_behind}
use Rattle.model_slots.proofs.Searching.{first_start, first_more, first_done}
use Rattle.model_slots.proofs.column.next_waiting.Goals as goal

pub loop-place-init : goal.loop-place-init
loop-place-init c = first_start _

pub loop-place-preserved : goal.loop-place-preserved
loop-place-preserved c = first_more _ _ _ _ _ c.loop-place.invariant c.waits_behind.ensures c.first_so_far-found.ensures

pub returns : goal.returns
unfolding next_behind
returns c = first_done _ _ _ _ c.loop-place.invariant (omega arith) (omega arith)
