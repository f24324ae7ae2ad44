use Rattle.std.proofs.Common.{◌≡◌, ℕ, ◌<◌, get_or}
use Rattle.fc_check_lane.specs.declared.volume.VolumeSize.{VolumeSize}
use Rattle.fc_check_lane.proofs.known.Known.grain_of.Given as goal

-- none of the volumes so far is this one with this grain
abbrev pub invariant-loop-size : goal.invariant-loop-size
invariant-loop-size l = (j : ℕ) (d : VolumeSize) → j < l.size-index → (get_or l.size-items j d).volume.0 ≡ l.volume.0 → l.number < (get_or l.size-items j d).grains → ⊥
