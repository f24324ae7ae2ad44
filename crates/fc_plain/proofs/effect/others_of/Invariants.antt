use Rattle.std.proofs.Common.{◌≡◌, take, not}
use Rattle.std.specs.Prelude.{◌==◌}
use Rattle.std.specs.List.{filter}
use Rattle.fc_entry.specs.Picture.{PlainVolume}
use Rattle.fc_plain.proofs.effect.others_of.Given as goal

-- the others so far
abbrev pub invariant-loop-volume : goal.invariant-loop-volume
invariant-loop-volume l = l.others.items ≡ filter (λ (v : PlainVolume). not (v.volume.0 == l.id.0)) (take l.volume-index l.volumes)
