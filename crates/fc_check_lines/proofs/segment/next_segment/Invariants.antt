use Rattle.std.proofs.Common.{length}
use Rattle.fc_check_lines.proofs.Bytes.{SoFar}
use Rattle.fc_check_lines.proofs.segment.next_segment.Given as goal

-- no segment has ended so far
abbrev pub invariant-lines : goal.invariant-lines
invariant-lines l = SoFar l.bytes l.rest l.reader

abbrev pub decreases-lines : goal.decreases-lines
decreases-lines l = length l.rest
