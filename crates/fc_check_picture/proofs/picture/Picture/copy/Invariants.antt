use Rattle.std.proofs.Common.{◌≡◌, take}
use Rattle.fc_check_picture.proofs.picture.Picture.copy.Given as goal

-- the volumes so far
abbrev pub invariant-loop-volume : goal.invariant-loop-volume
invariant-loop-volume g l = l.volumes.items ≡ take l.volume-index l.volume-items
