use Rattle.std.proofs.Common.{length, ◌-◌}
use Rattle.fc_base.proofs.RunLemmas.{HasRuns}
use Rattle.fc_base.proofs.runs.Runs.of.Given as goal

-- the runs so far stand for the bytes so far
abbrev pub invariant-loop-start : goal.invariant-loop-start
invariant-loop-start l = HasRuns l.runs.items l.bytes l.start

abbrev pub decreases-loop-start : goal.decreases-loop-start
decreases-loop-start l = length l.bytes - l.start
