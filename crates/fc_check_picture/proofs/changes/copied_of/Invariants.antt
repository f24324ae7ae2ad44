use Rattle.std.proofs.Common.{◌≡◌, drop}
use Rattle.fc_entry.specs.Picture.{volume_in}
use Rattle.fc_check_picture.proofs.changes.copied_of.Given as goal

-- none of the volumes so far has this id
abbrev pub invariant-loop-volume : goal.invariant-loop-volume
invariant-loop-volume g l = volume_in (drop l.volume-index l.volumes) l.id ≡ volume_in l.volumes l.id
