use Rattle.std.proofs.Common.{◌≡◌, ◌⊎◌, ℕ, ◌<◌}
use Rattle.fc_base.specs.Sheet.{slot_at}
use Rattle.chain_steps.proofs.fits.fits_remove.Given as goal

-- no other slot so far is the volume's or in its chain
abbrev pub invariant-loop-other : goal.invariant-loop-other
invariant-loop-other l = (j : ℕ) → j < l.other → ((slot_at l.plain.slots j).volume ≡ l.volume.0) ⊎ ((slot_at l.plain.slots j).chain ≡ (slot_at l.plain.slots l.place).chain) → j ≡ l.place
