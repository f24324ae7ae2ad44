use Rattle.std.proofs.Common.{arith}
use Rattle.model_slots.proofs.Columns.{holder_found}
use Rattle.model_slots.proofs.Searching.{last_start, last_more}
use Rattle.model_slots.proofs.column.holder_of.Goals as goal

pub loop-place-init : goal.loop-place-init
loop-place-init c = last_start _

pub loop-place-preserved : goal.loop-place-preserved
loop-place-preserved c = last_more _ _ _ _ _ c.loop-place.invariant c.holds_in_chain.ensures c.last_so_far-found.ensures

pub returns : goal.returns
returns c = holder_found _ _ _ _ _ c.loop-place.invariant (omega arith) (omega arith)
