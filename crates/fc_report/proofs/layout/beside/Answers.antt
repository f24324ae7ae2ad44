use Rattle.std.proofs.Common.{arith}
use Rattle.fc_report.proofs.Cells.{beside_more}
use Rattle.fc_report.proofs.layout.beside.Goals as goal

pub loop-place-preserved : goal.loop-place-preserved
loop-place-preserved c =
    grind (arith, beside_more c.unwrap_or-between.result c.args.headings.now c.args.fields.now c.loop-place.place c.index-headings-place.result c.index-fields-place.result c.requires c.loop-place-test.true)
