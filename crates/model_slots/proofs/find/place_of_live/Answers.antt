use Rattle.std.proofs.Common.{rules, ◌&&◌, eqb}
use Rattle.fc_base.specs.Sheet.{slot_at, live_place}
use Rattle.model_slots.proofs.find.place_of_live.Goals as goal

pub returns-clause-value : goal.returns-clause-value
unfolding live_place
returns-clause-value c = c.first_place.ensures.value (λ k. (slot_at c.args.slots.now k).is_live && eqb (slot_at c.args.slots.now k).volume c.args.volume) (λ k passes answered. search rules)
