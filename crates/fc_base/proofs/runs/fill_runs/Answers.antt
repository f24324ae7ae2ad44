-- The bytes of one run more.
use Rattle.fc_base.proofs.RunLemmas.{Filled-end, Filled-more}
use Rattle.fc_base.proofs.runs.fill_runs.Goals as goal

pub fill_part-requires-clause-within : goal.fill_part-requires-clause-within
fill_part-requires-clause-within c =
    Filled-end c.args.runs.now c.loop-run.run-index record { count = 0; byte = 0 } c.loop-run.out c.loop-run.start
    c.loop-run-test.true c.loop-run.invariant

pub loop-run-preserved : goal.loop-run-preserved
loop-run-preserved c =
    Filled-more c.args.runs.now c.loop-run.run-index record { count = 0; byte = 0 } c.loop-run.out c.fill_part.new.out
    c.loop-run.start c.loop-run-test.true c.loop-run.invariant c.fill_part.ensures.filled c.fill_part.ensures.len
