use Rattle.std.proofs.Common.{ℕ, ◌<◌, get_or}
use Rattle.fc_base.specs.Sheet.{shape_of}
use Rattle.fc_model.specs.Graph.{LeadsInto}
use Rattle.fc_model.proofs.graph.sink_of.Given as goal

-- each so far leads on
abbrev pub invariant-loop-place : goal.invariant-loop-place
invariant-loop-place l = (k : ℕ) → k < l.place → LeadsInto (shape_of l.slots) (get_or l.volumes k 0) l.volumes
