use Rattle.std.proofs.Common.{◌≡◌, ℕ, ◌<◌, true}
use Rattle.fc_base.specs.Column.{is_old_of}
use Rattle.fc_base.specs.Sheet.{shape_of}
use Rattle.fc_model.specs.Graph.{LiveOfBehind}
use Rattle.fc_model.proofs.graph.has_edge.Given as goal

-- no old slot so far stands before a live one of the other volume
abbrev pub invariant-loop-old : goal.invariant-loop-old
invariant-loop-old l = (k : ℕ) → k < l.old → is_old_of (shape_of l.slots) l.from k ≡ true → LiveOfBehind l.slots k l.to → ⊥
