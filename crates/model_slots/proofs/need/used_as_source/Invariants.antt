use Rattle.std.proofs.Common.{◌≡◌, ℕ, ◌<◌}
use Rattle.fc_base.specs.Counts.{LiveBehind}
use Rattle.fc_base.specs.Sheet.{slot_at}
use Rattle.model_slots.proofs.need.used_as_source.Given as goal

-- no slot so far is one of the volume with a live slot behind it
abbrev pub invariant-loop-place : goal.invariant-loop-place
invariant-loop-place l = (k : ℕ) → k < l.place → (slot_at l.slots k).volume ≡ l.volume → LiveBehind l.slots k → ⊥
