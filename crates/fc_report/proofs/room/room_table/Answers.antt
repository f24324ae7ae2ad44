use Rattle.std.proofs.Common.{◌∙◌, ap, [], ◌∷◌, arith}
use Rattle.fc_books.specs.Columns.{room_columns}
use Rattle.fc_report.proofs.Tables.{table_more}
use Rattle.fc_report.proofs.room.room_table.Goals as goal

pub loop-volume-preserved : goal.loop-volume-preserved
loop-volume-preserved g c =
    grind (arith, table_more (room_columns (g.S.Sheet.meaning c.args.sheet.now).rooms) c.all_volumes-volumes.result.now c.loop-volume.volume-index c.volume-item.result c.loop-volume-test.true)

pub loop-volume-init : goal.loop-volume-init
loop-volume-init g c =
    c.in_ok-rows.ensures
    ∙ ap (λ row. row ∷ []) (c.in_ok-headings.ensures (g.S.Sheet.meaning c.args.sheet.now).rooms)
