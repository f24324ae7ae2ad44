use Rattle.fc_check_sheet.proofs.Measuring.{LevelBelow}
use Rattle.fc_check_sheet.proofs.distances.note_level.Given as goal

abbrev pub invariant-loop-link : goal.invariant-loop-link
invariant-loop-link l = LevelBelow l.links l.start l.away l.fn.distances.items l.distances.items l.any l.link-index
