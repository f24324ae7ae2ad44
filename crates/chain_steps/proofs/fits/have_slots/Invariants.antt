use Rattle.std.proofs.Common.{ℕ, ◌<◌, get_or}
use Rattle.std.specs.Prelude.{IsSome}
use Rattle.fc_base.specs.declared.ids.MapId.{MapId}
use Rattle.fc_base.specs.Sheet.{mapping_place}
use Rattle.chain_steps.proofs.fits.have_slots.Given as goal

-- each so far has its slot
abbrev pub invariant-loop-other : goal.invariant-loop-other
invariant-loop-other l = (k : ℕ) (d : MapId) → k < l.other-index → IsSome (mapping_place l.plain.slots (get_or l.others k d).0)
