use Rattle.fc_check_sheet.specs.Loops.{LeastNext}
use Rattle.fc_check_sheet.proofs.loops.next_volume.Given as goal

abbrev pub invariant-loop-link : goal.invariant-loop-link
invariant-loop-link l = LeastNext l.links l.distances l.here l.away l.link-index l.next
