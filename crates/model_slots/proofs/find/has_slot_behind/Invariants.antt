use Rattle.std.proofs.Common.{◌≡◌, ◌&&◌, eqb, ltb}
use Rattle.fc_base.specs.Column.{last_below}
use Rattle.fc_base.specs.Sheet.{slot_at}
use Rattle.model_slots.proofs.find.has_slot_behind.Given as goal

-- the last so far
abbrev pub invariant-loop-place : goal.invariant-loop-place
invariant-loop-place l = l.found ≡ last_below (λ j. ltb l.from j && eqb (slot_at l.slots j).chain (slot_at l.slots l.from).chain) l.place
