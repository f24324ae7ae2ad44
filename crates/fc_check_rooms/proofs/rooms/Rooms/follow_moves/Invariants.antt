use Rattle.std.proofs.Common.{◌≡◌, take}
use Rattle.std.specs.List.{fold}
use Rattle.fc_base.specs.declared.size.GrainSize.{GrainSize}
use Rattle.fc_legal.specs.Whole.{single_lane}
use Rattle.fc_rules.specs.Rooms.{rooms_move}
use Rattle.fc_check_rooms.proofs.rooms.Rooms.follow_moves.Given as goal

-- the moves so far are noted
abbrev pub invariant-loop-mv : goal.invariant-loop-mv
invariant-loop-mv l = (size : GrainSize) → l.self ≡ fold (rooms_move (single_lane size) l.picture) l.initial.self (take l.mv-index l.moves)
