use Rattle.std.proofs.Common.{◌≡◌, take}
use Rattle.fc_registry.specs.Index.{rows}
use Rattle.fc_registry.proofs.indexed.Table.copy.Given as goal

-- the objects so far
abbrev pub invariant-loop-item : goal.invariant-loop-item
invariant-loop-item g l = rows l.copy ≡ take l.item-index (rows l.self)
