use Rattle.model_slots.proofs.Searching.{last_start, last_more}
use Rattle.model_slots.proofs.find.has_slot_behind.Goals as goal

pub loop-place-init : goal.loop-place-init
loop-place-init c = last_start _

pub loop-place-preserved : goal.loop-place-preserved
loop-place-preserved c = last_more _ _ _ _ _ c.loop-place.invariant c.is_behind.ensures c.last_so_far-found.ensures
