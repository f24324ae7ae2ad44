use Rattle.fc_check_sheet.proofs.Running.{run_more}
use Rattle.fc_check_sheet.proofs.kept.ranges_of.Goals as goal

pub loop-first-preserved : goal.loop-first-preserved
loop-first-preserved c = run_more c.args.marks.now c.loop-first.from c.in-Some.first c.run_end-from.result c.loop-first.ranges c.push.new.self c.loop-first.invariant c.in-Some.ensures c.run_end-from.ensures c.in_ok-push.ensures.ok
