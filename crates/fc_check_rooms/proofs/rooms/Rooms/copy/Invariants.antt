use Rattle.std.proofs.Common.{◌≡◌, take}
use Rattle.fc_check_rooms.proofs.rooms.Rooms.copy.Given as goal

-- the rooms so far
abbrev pub invariant-loop-room : goal.invariant-loop-room
invariant-loop-room l = l.rooms.items ≡ take l.room-index l.room-items
