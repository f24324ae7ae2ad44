use Rattle.std.proofs.Common.{◌∙◌, ap, [], ◌∷◌, arith}
use Rattle.fc_books.specs.Columns.{group_columns}
use Rattle.fc_report.proofs.Tables.{table_more}
use Rattle.fc_report.proofs.objects.group_table.Goals as goal

pub loop-group-preserved : goal.loop-group-preserved
loop-group-preserved c =
    grind (arith, table_more (group_columns c.args.registry.now.tables) c.all_groups-groups.result.now c.loop-group.group-index c.group-item.result c.loop-group-test.true)

pub loop-group-init : goal.loop-group-init
loop-group-init c =
    c.in_ok-rows.ensures
    ∙ ap (λ row. row ∷ []) (c.in_ok-headings.ensures c.args.registry.now.tables)
