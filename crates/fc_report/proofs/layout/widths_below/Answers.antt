use Rattle.std.proofs.Common.{arith}
use Rattle.std.proofs.lemmas.List.FromFn.{map-range_with_len_more}
use Rattle.fc_books.specs.Layout.{width_at}
use Rattle.fc_report.proofs.layout.widths_below.Goals as goal

pub loop-column-preserved : goal.loop-column-preserved
loop-column-preserved c =
    grind (arith, map-range_with_len_more (width_at c.args.rows.now) 0 c.loop-column.column c.loop-column.column (omega arith))
