use Rattle.std.proofs.Common.{arith}
use Rattle.fc_books.proofs.DependentMaps.{has_id_among}
use Rattle.fc_books.specs.Columns.{dependent_columns}
use Rattle.fc_report.proofs.Tables.{table_kept}
use Rattle.fc_report.proofs.mappings.dependent_table.Goals as goal

pub loop-mapping-preserved : goal.loop-mapping-preserved
loop-mapping-preserved c =
    grind (arith, table_kept dependent_columns (has_id_among c.args.ids.now) c.args.mappings.now c.loop-mapping.mapping-index c.mapping-item.result c.loop-mapping-test.true)
