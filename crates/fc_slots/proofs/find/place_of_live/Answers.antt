use Rattle.std.proofs.Common.{◌∙◌, sym, arith}
use Rattle.fc_slots.proofs.Finds.{live_found, live_not_found}
use Rattle.fc_slots.proofs.find.place_of_live.Goals as goal

pub returns-then-volume-clause-value : goal.returns-then-volume-clause-value
returns-then-volume-clause-value c = live_found _ _ c.loop-place.place c.index-slots-place.result c.loop-place-test.true c.index-slots-place.is (sym c.is_live.ensures ∙ c.if-is_live.true) (sym c.volume.ensures ∙ c.if-volume.true) c.loop-place.invariant

pub returns-clause-value : goal.returns-clause-value
returns-clause-value c = live_not_found _ _ c.loop-place.place (omega arith) c.loop-place.invariant
