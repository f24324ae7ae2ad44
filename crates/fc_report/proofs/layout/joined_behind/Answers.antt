use Rattle.std.proofs.Common.{arith}
use Rattle.fc_report.proofs.Cells.{behind_more}
use Rattle.fc_report.proofs.layout.joined_behind.Goals as goal

pub loop-text-preserved : goal.loop-text-preserved
loop-text-preserved c =
    grind (arith, behind_more c.args.delim c.args.first.now c.args.next.now c.loop-text.text-index c.text-item.result c.loop-text-test.true)
