use Rattle.std.proofs.Common.{◌≡◌, ℕ, ◌<◌, Some}
use Rattle.fc_base.specs.Column.{holder}
use Rattle.fc_base.specs.Sheet.{column}
use Rattle.fc_check_sheet.proofs.readers.reads.Given as goal

-- at no grain so far
abbrev pub invariant-loop-grain : goal.invariant-loop-grain
invariant-loop-grain l = (g : ℕ) → g < l.grain → holder (column l.sheet.slots g) l.place ≡ Some l.from → ⊥
