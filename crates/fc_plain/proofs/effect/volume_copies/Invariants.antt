use Rattle.std.proofs.Common.{◌≡◌, take}
use Rattle.fc_plain.proofs.effect.volume_copies.Given as goal

-- the volumes so far
abbrev pub invariant-loop-volume : goal.invariant-loop-volume
invariant-loop-volume l = l.copies.items ≡ take l.volume-index l.volumes
