use Rattle.std.proofs.Common.{arith}
use Rattle.fc_base.specs.Column.{old_slots}
use Rattle.model_slots.proofs.Columns.{places_start, places_more, places_done}
use Rattle.model_slots.proofs.column.old_places.Goals as goal

pub loop-place-init : goal.loop-place-init
loop-place-init c = places_start _ _ _ c.new-places.ensures.items

pub loop-place-preserved : goal.loop-place-preserved
loop-place-preserved c = places_more _ _ _ _ _ c.loop-place.invariant c.in_ok-put_if_old.ensures

pub returns : goal.returns
unfolding old_slots
returns c = places_done _ _ _ _ _ c.loop-place.invariant (omega arith) (omega arith)
