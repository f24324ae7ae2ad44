use Rattle.std.proofs.Common.{ℕ, ◌<◌, get_or}
use Rattle.fc_base.specs.RestoreGraph.{Edge}
use Rattle.fc_base.specs.Sheet.{shape_of}
use Rattle.fc_model.proofs.graph.leads_into.Given as goal

-- no edge to one of those so far
abbrev pub invariant-loop-to : goal.invariant-loop-to
invariant-loop-to l = (k : ℕ) → k < l.to-index → Edge (shape_of l.slots) l.from (get_or l.volumes k 0) → ⊥
