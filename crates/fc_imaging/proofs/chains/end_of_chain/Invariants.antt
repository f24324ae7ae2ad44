use Rattle.std.proofs.Common.{◌≡◌, ◌-◌, ◌<◌, ◌≤◌, ℕ, length}
use Rattle.fc_base.specs.Sheet.{slot_at}
use Rattle.fc_imaging.proofs.chains.end_of_chain.Given as goal

abbrev pub invariant-loop-end : goal.invariant-loop-end
invariant-loop-end l = (l.from < l.end) × (l.end ≤ length l.slots) × ((k : ℕ) → l.from ≤ k → k < l.end → (slot_at l.slots k).chain ≡ (slot_at l.slots l.from).chain)

abbrev pub decreases-loop-end : goal.decreases-loop-end
decreases-loop-end l = length l.slots - l.end
