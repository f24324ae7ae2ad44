use Rattle.std.proofs.Common.{vec_len}
use Rattle.fc_check_follow.specs.Following.{AreUnderWay}
use Rattle.fc_check_follow.proofs.candidates.follow_all.Given as goal

abbrev pub invariant-loop-way : goal.invariant-loop-way
invariant-loop-way l = AreUnderWay l.fn.ways.items l.entry l.ways.items l.after.items

abbrev pub decreases-loop-way : goal.decreases-loop-way
decreases-loop-way l = vec_len l.ways
