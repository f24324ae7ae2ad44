use Rattle.std.proofs.Common.{◌≡◌, ℕ, ◌<◌, Some}
use Rattle.fc_base.specs.Column.{holder}
use Rattle.fc_base.specs.Sheet.{column}
use Rattle.fc_base.specs.SheetFits.{IsSlotOf}
use Rattle.chain_steps.proofs.fits.reads_forced.Given as goal

-- at no grain so far
abbrev pub invariant-loop-grain : goal.invariant-loop-grain
invariant-loop-grain l = (g h : ℕ) → g < l.grain → holder (column l.plain.slots g) l.place ≡ Some h → IsSlotOf l.plain.slots l.map l.others h → ⊥
