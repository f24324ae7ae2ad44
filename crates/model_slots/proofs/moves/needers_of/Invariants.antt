use Rattle.std.proofs.Common.{◌≡◌, take}
use Rattle.std.specs.Prelude.{filter_map}
use Rattle.fc_base.specs.Column.{needer}
use Rattle.fc_base.specs.Sheet.{column}
use Rattle.model_slots.proofs.moves.needers_of.Given as goal

-- the needers of the slots so far
abbrev pub invariant-loop-holder : goal.invariant-loop-holder
invariant-loop-holder l = l.needers.items ≡ filter_map (needer (column l.slots l.grain)) (take l.holder-index l.holders)
