use Rattle.std.proofs.Common.{◌≡◌, ◌&&◌, eqb, ltb, false, get_or}
use Rattle.fc_base.specs.Column.{last_below}
use Rattle.fc_base.specs.Sheet.{slot_at}
use Rattle.model_slots.proofs.column.none_holds.Given as goal

-- the last so far
abbrev pub invariant-loop-other : goal.invariant-loop-other
invariant-loop-other l = l.found ≡ last_below (λ j. ltb l.from j && (eqb (slot_at l.slots j).chain (slot_at l.slots l.from).chain && get_or (slot_at l.slots j).held l.grain false)) l.other
