use Rattle.fc_check_sheet.proofs.Looping.{IsOnWay}
use Rattle.fc_check_sheet.proofs.loops.best_loop.Given as goal

abbrev pub invariant-loop-next : goal.invariant-loop-next
invariant-loop-next l = IsOnWay l.links l.distances l.start l.long l.names l.here l.away

abbrev pub decreases-loop-next : goal.decreases-loop-next
decreases-loop-next l = l.away
