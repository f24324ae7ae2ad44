use Rattle.std.proofs.Common.{◌≡◌, ℕ, ◌<◌, true}
use Rattle.fc_base.specs.Sheet.{slot_at}
use Rattle.model_slots.proofs.need.has_live_behind.Given as goal

-- no live slot so far stands behind in the chain
abbrev pub invariant-loop-other : goal.invariant-loop-other
invariant-loop-other l = (j : ℕ) → l.place < j → j < l.other → (slot_at l.slots j).is_live ≡ true → (slot_at l.slots j).chain ≡ (slot_at l.slots l.place).chain → ⊥
