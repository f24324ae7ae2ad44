use Rattle.std.proofs.Common.{◌≡◌, take}
use Rattle.std.specs.Prelude.{filter_map}
use Rattle.fc_base.specs.Column.{first_reader}
use Rattle.fc_base.specs.Sheet.{column}
use Rattle.model_slots.proofs.moves.readers_of.Given as goal

-- the readers of the slots so far
abbrev pub invariant-loop-holder : goal.invariant-loop-holder
invariant-loop-holder l = l.readers.items ≡ filter_map (first_reader (column l.slots l.grain) l.but) (take l.holder-index l.holders)
