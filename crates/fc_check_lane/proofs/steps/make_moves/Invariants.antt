use Rattle.std.proofs.Common.{◌≡◌, take}
use Rattle.std.specs.List.{fold}
use Rattle.fc_check_lane.specs.Steps.{moved_by}
use Rattle.fc_check_lane.proofs.steps.make_moves.Given as goal

-- the moves so far are made
abbrev pub invariant-loop-moved : goal.invariant-loop-moved
invariant-loop-moved l = l.sheet ≡ fold moved_by l.initial.sheet (take l.moved-index l.moves)
