use Rattle.std.proofs.Common.{◌≡◌, ◌⊎◌, ℕ, ◌<◌, Some}
use Rattle.std.specs.Prelude.{Contains}
use Rattle.fc_base.specs.Column.{holder}
use Rattle.fc_base.specs.Sheet.{column}
use Rattle.model_slots.proofs.need.reads_listed.Given as goal

-- at no grain so far
abbrev pub invariant-loop-grain : goal.invariant-loop-grain
invariant-loop-grain l = (g h : ℕ) → g < l.grain → holder (column l.slots g) l.place ≡ Some h → (h ≡ l.on) ⊎ Contains l.listed h → ⊥
