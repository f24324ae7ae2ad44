use Rattle.std.proofs.Common.{◌≢◌, ℕ, ◌<◌}
use Rattle.fc_base.specs.Sheet.{slot_at}
use Rattle.chain_steps.proofs.fits.fits_make.Given as goal

-- no slot so far is the volume's
abbrev pub invariant-loop-place : goal.invariant-loop-place
invariant-loop-place l = (k : ℕ) → k < l.place → (slot_at l.plain.slots k).volume ≢ l.volume.0
