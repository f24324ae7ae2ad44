use Rattle.std.proofs.Common.{◌∙◌, sym, arith}
use Rattle.fc_report.proofs.Cells.{filled_nil, filled_more}
use Rattle.fc_report.proofs.layout.filled.Goals as goal

pub loop-place-preserved : goal.loop-place-preserved
loop-place-preserved c =
    grind (arith, filled_more c.args.widths.now c.args.row.now c.loop-place.place c.index-row-place.result c.loop-place-test.true)

pub loop-place-init : goal.loop-place-init
loop-place-init c = c.new-cells.ensures ∙ sym (filled_nil c.args.widths.now)
