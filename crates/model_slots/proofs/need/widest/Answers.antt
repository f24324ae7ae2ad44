use Rattle.std.proofs.Common.{arith}
use Rattle.model_slots.proofs.Needs.{no_width, width_more, width_done}
use Rattle.model_slots.proofs.need.widest.Goals as goal

pub loop-place-init : goal.loop-place-init
loop-place-init c = no_width _

pub loop-place-preserved : goal.loop-place-preserved
loop-place-preserved c = width_more _ _ _ _ _ c.loop-place.invariant c.grains_of.ensures c.max-width.ensures

pub returns : goal.returns
returns c = width_done _ _ _ (omega arith) c.loop-place.invariant
