use Rattle.std.proofs.Common.{◌≡◌, ℕ, ◌<◌, ◌-◌, true, length}
use Rattle.fc_base.specs.Sheet.{slot_at}
use Rattle.fc_slots.proofs.walk.has_live_behind.Given as goal

-- no live slot of the chain stands between
abbrev pub invariant-loop-behind : goal.invariant-loop-behind
invariant-loop-behind l = record {
  behind : l.place < l.behind;
  none : (j : ℕ) → l.place < j → j < l.behind → (slot_at l.slots j).is_live ≡ true → (slot_at l.slots j).chain ≡ (slot_at l.slots l.place).chain → ⊥;
}

abbrev pub decreases-loop-behind : goal.decreases-loop-behind
decreases-loop-behind l = length l.slots - l.behind
