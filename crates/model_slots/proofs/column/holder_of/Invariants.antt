use Rattle.std.proofs.Common.{◌≡◌, ◌&&◌, eqb, false, get_or}
use Rattle.fc_base.specs.Column.{last_below}
use Rattle.fc_base.specs.Sheet.{slot_at}
use Rattle.model_slots.proofs.column.holder_of.Given as goal

-- the last so far
abbrev pub invariant-loop-place : goal.invariant-loop-place
invariant-loop-place l = l.found ≡ last_below (λ j. eqb (slot_at l.slots j).chain (slot_at l.slots l.of).chain && get_or (slot_at l.slots j).held l.grain false) l.place
