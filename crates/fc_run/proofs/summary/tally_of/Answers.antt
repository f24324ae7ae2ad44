use Rattle.std.proofs.Common.{arith}
use Rattle.fc_run.proofs.SummaryLemmas.{tally-more}
use Rattle.fc_run.proofs.summary.tally_of.Goals as goal

pub loop-index-preserved : goal.loop-index-preserved
loop-index-preserved c = (
  tally-more c.args.history.now.entries c.loop-index.index c.entry.result.now c.loop-index.tally c.with_entry-tally.result
      c.entry.ensures c.loop-index.invariant.0 c.with_entry-tally.ensures.tally,
  omega (arith, c.loop-index.invariant.1, c.with_entry-tally.ensures.moves),
)
