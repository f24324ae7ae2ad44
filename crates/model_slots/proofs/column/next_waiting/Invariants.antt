use Rattle.std.proofs.Common.{◌≡◌, ◌&&◌, eqb, ltb}
use Rattle.fc_base.specs.Column.{first_below}
use Rattle.fc_base.specs.Moves.{none_holds_behind}
use Rattle.fc_base.specs.Sheet.{slot_at, column}
use Rattle.model_slots.proofs.column.next_waiting.Given as goal

-- the first so far
abbrev pub invariant-loop-place : goal.invariant-loop-place
invariant-loop-place l = l.found ≡ first_below (λ k. ltb l.from k && ((slot_at l.slots k).is_live && (eqb (slot_at l.slots k).chain (slot_at l.slots l.from).chain && none_holds_behind (column l.slots l.grain) l.from k))) l.place
