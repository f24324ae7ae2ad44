use Rattle.std.proofs.Common.{◌≡◌, drop}
use Rattle.fc_base.specs.Room.{used_in}
use Rattle.fc_check_rooms.proofs.rooms.Rooms.used.Given as goal

-- none of the rooms so far is of the volume
abbrev pub invariant-loop-room : goal.invariant-loop-room
invariant-loop-room l = used_in (drop l.room-index l.room-items) l.volume.0 ≡ used_in l.self l.volume.0
