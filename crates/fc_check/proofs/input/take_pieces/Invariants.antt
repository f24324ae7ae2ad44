use Rattle.std.proofs.Common.{◌-◌, length}
use Rattle.fc_check.specs.Input.{TakenSoFar}
use Rattle.fc_check.proofs.input.take_pieces.Given as goal

-- so many bytes were taken, and kept
abbrev pub invariant-loop-bytes : goal.invariant-loop-bytes
invariant-loop-bytes g l = TakenSoFar (g.S.Source.meaning l.fn.source) l.bytes.items (g.S.Source.meaning l.source)

abbrev pub decreases-loop-bytes : goal.decreases-loop-bytes
decreases-loop-bytes g l = 67108864 - length l.bytes.items
