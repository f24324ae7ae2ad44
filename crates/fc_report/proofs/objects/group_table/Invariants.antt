-- The groups before this one.
use Rattle.std.proofs.Common.{◌≡◌, take}
use Rattle.fc_books.specs.Columns.{group_columns}
use Rattle.fc_books.specs.Layout.{table}
use Rattle.fc_report.proofs.objects.group_table.Given as goal

abbrev pub invariant-loop-group : goal.invariant-loop-group
invariant-loop-group l = l.rows ≡ table (group_columns l.registry.tables) (take l.group-index l.groups)
