use Rattle.std.proofs.Common.{◌-◌, length}
use Rattle.fc_check_sheet.proofs.Running.{HaveRanges}
use Rattle.fc_check_sheet.proofs.kept.ranges_of.Given as goal

abbrev pub invariant-loop-first : goal.invariant-loop-first
invariant-loop-first l = HaveRanges l.marks l.from l.ranges

abbrev pub decreases-loop-first : goal.decreases-loop-first
decreases-loop-first l = length l.marks - l.from
