use Rattle.std.proofs.Common.{◌≡◌, take, map}
use Rattle.fc_plain.specs.Changes.{cut_if}
use Rattle.fc_plain.proofs.effect.cut_volumes.Given as goal

-- the volumes so far
abbrev pub invariant-loop-volume : goal.invariant-loop-volume
invariant-loop-volume l = l.new.items ≡ map (cut_if l.id l.kept) (take l.volume-index l.volumes)
