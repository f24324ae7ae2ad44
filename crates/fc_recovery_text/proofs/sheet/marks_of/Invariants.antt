use Rattle.std.proofs.Common.{◌≡◌, ℕ, ◌<◌, length}
use Rattle.fc_bits.specs.Grains.{has}
use Rattle.fc_bits.specs.Words.{bit_of}
use Rattle.fc_recovery_text.proofs.sheet.marks_of.Given as goal

-- the marks so far are the bits
abbrev pub invariant-loop-grain : goal.invariant-loop-grain
invariant-loop-grain l = (length l.marks.items ≡ l.grains) × ((g : ℕ) → g < l.grain → bit_of l.words g ≡ has l.marks.items g)
