use Rattle.std.proofs.Common.{◌∙◌, sym, arith}
use Rattle.fc_slots.proofs.Finds.{birth_found, birth_not_found}
use Rattle.fc_slots.proofs.find.place_of_birth.Goals as goal

pub returns-then-birth-clause-value : goal.returns-then-birth-clause-value
returns-then-birth-clause-value c = birth_found _ _ c.loop-place.place c.index-slots-place.result c.loop-place-test.true c.index-slots-place.is (sym c.birth.ensures ∙ c.if-birth.true) c.loop-place.invariant

pub returns-clause-value : goal.returns-clause-value
returns-clause-value c = birth_not_found _ _ c.loop-place.place (omega arith) c.loop-place.invariant
