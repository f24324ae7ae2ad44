use Rattle.std.proofs.Common.{◌≡◌, ◌++◌, take, drop}
use Rattle.fc_base.specs.Room.{reach}
use Rattle.fc_check_rooms.proofs.rooms.reach_each.Given as goal

-- the rooms so far are changed, the others as they were
abbrev pub invariant-loop-room : goal.invariant-loop-room
invariant-loop-room l = l.rooms ≡ reach l.volume.0 l.grain (take l.room-index l.initial.rooms) ++ drop l.room-index l.initial.rooms
