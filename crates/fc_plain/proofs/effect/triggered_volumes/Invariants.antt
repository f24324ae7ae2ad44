use Rattle.std.proofs.Common.{◌≡◌, take, map}
use Rattle.fc_entry.specs.PlainStep.{after_trigger}
use Rattle.fc_plain.proofs.effect.triggered_volumes.Given as goal

-- the volumes so far
abbrev pub invariant-loop-volume : goal.invariant-loop-volume
invariant-loop-volume l = l.new.items ≡ map (after_trigger l.volumes l.pairs) (take l.volume-index l.volumes)
