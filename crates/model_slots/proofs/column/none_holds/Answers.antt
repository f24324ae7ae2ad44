use Rattle.model_slots.proofs.Searching.{last_start, last_more}
use Rattle.model_slots.proofs.column.none_holds.Goals as goal

pub loop-other-init : goal.loop-other-init
loop-other-init c = last_start _

pub loop-other-preserved : goal.loop-other-preserved
loop-other-preserved c = last_more _ _ _ _ _ c.loop-other.invariant c.holds_behind.ensures c.last_so_far-found.ensures
