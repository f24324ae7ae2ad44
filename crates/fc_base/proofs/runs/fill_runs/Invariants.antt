use Rattle.fc_base.proofs.RunLemmas.{Filled}
use Rattle.fc_base.proofs.runs.fill_runs.Given as goal

-- the bytes of the runs so far are there
abbrev pub invariant-loop-run : goal.invariant-loop-run
invariant-loop-run l = Filled l.runs l.run-index l.out l.start
