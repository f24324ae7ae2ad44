use Rattle.std.proofs.Common.{◌≡◌, ℕ, ◌≤◌, ◌+◌, true, false, get_or}
use Rattle.fc_base.specs.Sheet.{slot_at}
use Rattle.fc_slots.proofs.walk.holder_of.Given as goal

-- no slot of the chain from the bound on holds the grain
abbrev pub invariant-loop-bound : goal.invariant-loop-bound
invariant-loop-bound l = record {
  in_range : l.bound ≤ l.of + 1;
  none_after : (j : ℕ) → l.bound ≤ j → j ≤ l.of → (slot_at l.slots j).chain ≡ (slot_at l.slots l.of).chain → get_or (slot_at l.slots j).held l.grain false ≡ true → ⊥;
}

abbrev pub decreases-loop-bound : goal.decreases-loop-bound
decreases-loop-bound l = l.bound
