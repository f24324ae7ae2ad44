use Rattle.std.proofs.Common.{◌∙◌, ap, [], ◌∷◌, arith}
use Rattle.fc_books.specs.Columns.{mapping_columns}
use Rattle.fc_report.proofs.Tables.{table_more}
use Rattle.fc_report.specs.Asked.{asked}
use Rattle.fc_report.proofs.mappings.mapping_table.Goals as goal

pub loop-mapping-preserved : goal.loop-mapping-preserved
loop-mapping-preserved g c =
    grind (arith, table_more (mapping_columns (asked c.args.registry.now.tables (g.S.Sheet.meaning c.args.sheet.now))) c.all_mappings-mappings.result.now c.loop-mapping.mapping-index c.mapping-item.result c.loop-mapping-test.true)

pub loop-mapping-init : goal.loop-mapping-init
loop-mapping-init g c =
    c.in_ok-rows.ensures
    ∙ ap (λ row. row ∷ []) (c.in_ok-headings.ensures (asked c.args.registry.now.tables (g.S.Sheet.meaning c.args.sheet.now)))
