use Rattle.std.proofs.Common.{◌≡◌, ℕ, ◌<◌, Some}
use Rattle.fc_base.specs.declared.ids.MapId.{MapId}
use Rattle.std.proofs.Common.{get_or}
use Rattle.fc_base.specs.Sheet.{mapping_place}
use Rattle.chain_steps.proofs.fits.is_slot_of.Given as goal

-- it is none of those so far
abbrev pub invariant-loop-other : goal.invariant-loop-other
invariant-loop-other l = (k : ℕ) (d : MapId) → k < l.other-index → mapping_place l.plain.slots (get_or l.others k d).0 ≡ Some l.place → ⊥
