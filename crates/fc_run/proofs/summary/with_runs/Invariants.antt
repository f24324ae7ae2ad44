-- The runs before this one were added.
use Rattle.std.proofs.Common.{◌≡◌, ◌+◌, ◌%◌, ◌^◌, take}
use Rattle.std.specs.List.{sum_by}
use Rattle.fc_run.proofs.SummaryLemmas.{run_sum}
use Rattle.fc_run.proofs.summary.with_runs.Given as goal

abbrev pub invariant-loop-run : goal.invariant-loop-run
invariant-loop-run l = l.total ≡ (l.start + sum_by run_sum (take l.run-index l.runs)) % 2 ^ 32
