use Rattle.fc_run.proofs.SummaryLemmas.{total-all, total-more, total-none}
use Rattle.std.proofs.Common.{◌*◌, ◌+◌, ◌%◌, ◌^◌, ap, get_or, ℕ}
use Rattle.fc_base.specs.declared.runs.Run.{Run}
use Rattle.fc_run.proofs.summary.with_runs.Goals as goal

pub loop-run-init : goal.loop-run-init
loop-run-init c = total-none c.args.start c.ranges.start.fits

pub loop-run-preserved : goal.loop-run-preserved
loop-run-preserved c =
    let d : Run = record { count = 0; byte = 0 } in
    total-more c.args.runs.now c.loop-run.run-index c.args.start c.loop-run.total _ d c.loop-run-test.true c.loop-run.invariant
    (ap (λ (n : ℕ). (c.loop-run.total + (get_or c.args.runs.now c.loop-run.run-index d).count * n % 2 ^ 32) % 2 ^ 32) c.from.ensures)

pub returns : goal.returns
returns c = total-all c.args.runs.now c.loop-run.run-index c.args.start c.loop-run.total c.loop-run-test.false c.loop-run.invariant
