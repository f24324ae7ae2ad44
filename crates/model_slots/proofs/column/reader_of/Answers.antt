use Rattle.std.proofs.Common.{rules, ◌&&◌, not, eqb}
use Rattle.fc_base.specs.Column.{is_at, holder, first_reader}
use Rattle.fc_base.specs.Sheet.{slot_at, column}
use Rattle.model_slots.proofs.column.reader_of.Goals as goal

pub returns-clause-value : goal.returns-clause-value
unfolding first_reader
returns-clause-value c = c.first_place.ensures.value (λ k. (slot_at c.args.slots.now k).is_live && (not (eqb k c.args.but) && is_at (holder (column c.args.slots.now c.args.grain) k) c.args.of)) (λ k passes answered. search rules)
