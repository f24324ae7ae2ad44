-- The mappings before this one.
use Rattle.std.proofs.Common.{◌≡◌, take}
use Rattle.std.specs.List.{filter}
use Rattle.fc_books.proofs.DependentMaps.{has_id_among}
use Rattle.fc_books.specs.Columns.{dependent_columns}
use Rattle.fc_books.specs.Layout.{table}
use Rattle.fc_report.proofs.mappings.dependent_table.Given as goal

abbrev pub invariant-loop-mapping : goal.invariant-loop-mapping
invariant-loop-mapping l = l.rows ≡ table dependent_columns (filter (has_id_among l.ids) (take l.mapping-index l.mappings))
