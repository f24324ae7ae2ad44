use Rattle.std.proofs.Common.{◌∙◌, sym, arith}
use Rattle.fc_slots.proofs.Finds.{mapping_found, mapping_not_found}
use Rattle.fc_slots.proofs.find.place_of_mapping.Goals as goal

pub returns-then-is_of-clause-value : goal.returns-then-is_of-clause-value
returns-then-is_of-clause-value c = mapping_found _ _ c.loop-place.place c.index-slots-place.result c.loop-place-test.true c.index-slots-place.is (sym c.is_of.ensures ∙ c.if-is_of.true) c.loop-place.invariant

pub returns-clause-value : goal.returns-clause-value
returns-clause-value c = mapping_not_found _ _ c.loop-place.place (omega arith) c.loop-place.invariant
