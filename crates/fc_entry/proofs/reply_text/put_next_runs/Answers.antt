use Rattle.std.proofs.Common.{◌++◌, false, codes}
use Rattle.fc_base.specs.declared.runs.Run.{Run}
use Rattle.fc_entry.specs.Text.{run_text}
use Rattle.fc_entry.proofs.WrittenLemmas.{Written-more, Written-stopped}
use Rattle.fc_entry.proofs.reply_text.put_next_runs.Goals as goal

pub returns-in-Err : goal.returns-in-Err
returns-in-Err g c =
    Written-stopped (λ (run : Run). codes "," ++ run_text run) c.args.runs.now c.loop-run.run-index
    (record { count = 0; byte = 0 }) _ _ _ c.loop-run-test.true c.loop-run.invariant c.in-Err.ensures

pub loop-run-preserved : goal.loop-run-preserved
loop-run-preserved g c =
    Written-more (λ (run : Run). codes "," ++ run_text run) c.args.runs.now c.loop-run.run-index
    (record { count = 0; byte = 0 }) _ _ false _ c.loop-run-test.true c.loop-run.invariant c.in-Ok.ensures
