use Rattle.std.proofs.Common.{rules}
use Rattle.fc_base.specs.Column.{is_at}
use Rattle.fc_base.specs.Sheet.{slot_at, mapping_place}
use Rattle.model_slots.proofs.find.place_of_mapping.Goals as goal

pub returns-clause-value : goal.returns-clause-value
unfolding mapping_place
returns-clause-value c = c.first_place.ensures.value (λ k. is_at (slot_at c.args.slots.now k).mapping c.args.mapping) (λ k passes answered. search rules)
