-- The volumes before this one.
use Rattle.std.proofs.Common.{◌≡◌, take}
use Rattle.fc_books.specs.Columns.{volume_columns}
use Rattle.fc_books.specs.Layout.{table}
use Rattle.fc_report.proofs.objects.volume_table.Given as goal

abbrev pub invariant-loop-volume : goal.invariant-loop-volume
invariant-loop-volume l = l.rows ≡ table (volume_columns l.grain l.registry.tables) (take l.volume-index l.volumes)
