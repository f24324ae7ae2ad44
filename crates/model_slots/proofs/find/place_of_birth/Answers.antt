use Rattle.std.proofs.Common.{rules, eqb}
use Rattle.fc_base.specs.Sheet.{slot_at, birth_place}
use Rattle.model_slots.proofs.find.place_of_birth.Goals as goal

pub returns-clause-value : goal.returns-clause-value
unfolding birth_place
returns-clause-value c = c.first_place.ensures.value (λ k. eqb (slot_at c.args.slots.now k).birth c.args.birth) (λ k passes answered. search rules)
