-- Which grains occupy memory, by what a lane's entries tell.
use Rattle.std.specs.Prelude.{◌||◌, Bool, cond, fold, Option, Some, None, List}
use Rattle.fc_base.specs.Room.{Room, reach}
use Rattle.fc_base.specs.declared.request.Move.{Move}
use Rattle.fc_base.specs.declared.request.Torn.{Torn}
use Rattle.fc_base.specs.declared.request.WritePart.{WritePart}
use Rattle.fc_entry.specs.Picture.{Picture, grain_of_block, is_lost, now_at, volume_in}
use Rattle.fc_entry.specs.declared.entry.Entry.{Entry}
use Rattle.fc_rules.specs.LaneRight.{done_write}
use Rattle.fc_rules.specs.LaneTold.{LaneOf, place_of}

-- A move calls no disk in place, and where there is nothing to copy, since what the volume shows at the grain is lost.
abbrev pub calls_no_disk : LaneOf → Picture → Move → Bool
calls_no_disk l picture m = m.in_place || is_lost (now_at (volume_in picture m.volume) (place_of l m.grain.0))

-- After a move, a write that was done, and a torn one: each wrote its grain.
abbrev pub rooms_move : LaneOf → Picture → List Room → Move → List Room
rooms_move l picture rooms m = cond (calls_no_disk l picture m) rooms (reach m.volume.0 (place_of l m.grain.0) rooms)

abbrev pub rooms_write : LaneOf → List Room → Option WritePart → List Room
rooms_write l rooms None = rooms
rooms_write l rooms (Some part) = reach part.volume.0 (place_of l (grain_of_block l.grain part.block)) rooms

abbrev pub rooms_tear : LaneOf → List Room → Option Torn → List Room
rooms_tear l rooms None = rooms
rooms_tear l rooms (Some torn) = reach torn.volume.0 (place_of l torn.grain.0) rooms

-- After an entry with this write, these moves and this torn grain; the picture is the one before it.
abbrev pub rooms_told : LaneOf → Picture → List Room → Option WritePart → List Move → Option Torn → List Room
rooms_told l picture rooms write moves torn = rooms_tear l (rooms_write l (fold (rooms_move l picture) rooms moves) write) torn

abbrev pub rooms_entry : LaneOf → Picture → List Room → Entry → List Room
rooms_entry l picture rooms entry = rooms_told l picture rooms (done_write entry.request entry.reply) entry.moves entry.torn
