use Rattle.std.proofs.Common.{ℕ, ◌<◌}
use Rattle.std.specs.Prelude.{Contains}
use Rattle.fc_base.specs.Sheet.{slot_at}
use Rattle.fc_model.proofs.graph.volumes_of.Given as goal

-- the volumes of the slots so far
abbrev pub invariant-loop-place : goal.invariant-loop-place
invariant-loop-place l = (k : ℕ) → k < l.place → Contains l.volumes.items (slot_at l.slots k).volume
