-- The volumes before this one.
use Rattle.std.proofs.Common.{◌≡◌, take}
use Rattle.fc_books.specs.Columns.{room_columns}
use Rattle.fc_books.specs.Layout.{table}
use Rattle.fc_report.proofs.room.room_table.Given as goal

abbrev pub invariant-loop-volume : goal.invariant-loop-volume
invariant-loop-volume g l = l.rows ≡ table (room_columns (g.S.Sheet.meaning l.sheet).rooms) (take l.volume-index l.volumes)
