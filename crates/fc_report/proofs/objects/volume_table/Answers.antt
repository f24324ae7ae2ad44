use Rattle.std.proofs.Common.{◌∙◌, ap, [], ◌∷◌, arith}
use Rattle.fc_books.specs.Columns.{volume_columns}
use Rattle.fc_report.proofs.Tables.{table_more}
use Rattle.fc_report.proofs.objects.volume_table.Goals as goal

pub loop-volume-preserved : goal.loop-volume-preserved
loop-volume-preserved c =
    grind (arith, table_more (volume_columns c.args.grain c.args.registry.now.tables) c.all_volumes-volumes.result.now c.loop-volume.volume-index c.volume-item.result c.loop-volume-test.true)

pub loop-volume-init : goal.loop-volume-init
loop-volume-init c =
    c.in_ok-rows.ensures
    ∙ ap (λ row. row ∷ []) (c.in_ok-headings.ensures c.args.grain c.args.registry.now.tables)
