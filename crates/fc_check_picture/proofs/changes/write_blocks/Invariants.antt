use Rattle.std.proofs.Common.{◌≡◌, ◌++◌, map, take, drop}
use Rattle.fc_plain.specs.Changes.{write_if}
use Rattle.fc_check_picture.specs.Blocks.{marked_part}
use Rattle.fc_check_picture.proofs.changes.write_blocks.Given as goal

-- the volumes so far are changed, the others as they were
abbrev pub invariant-loop-volume : goal.invariant-loop-volume
invariant-loop-volume g l = l.volumes ≡ map (write_if l.size (marked_part (g.M.Mark.number l.mark) l.part)) (take l.volume-index l.initial.volumes) ++ drop l.volume-index l.initial.volumes
