use Rattle.std.proofs.Common.{◌≡◌, drop}
use Rattle.fc_entry.specs.Picture.{volume_in}
use Rattle.fc_check_picture.proofs.picture.Picture.part.Given as goal

-- none of the volumes so far has this id
abbrev pub invariant-loop-own : goal.invariant-loop-own
invariant-loop-own g l = volume_in (drop l.own-index l.own-items) l.volume ≡ volume_in l.self l.volume
