-- The mappings before this one.
use Rattle.std.proofs.Common.{◌≡◌, take}
use Rattle.fc_books.specs.Columns.{mapping_columns}
use Rattle.fc_books.specs.Layout.{table}
use Rattle.fc_report.specs.Asked.{asked}
use Rattle.fc_report.proofs.mappings.mapping_table.Given as goal

abbrev pub invariant-loop-mapping : goal.invariant-loop-mapping
invariant-loop-mapping g l = l.rows ≡ table (mapping_columns (asked l.registry.tables (g.S.Sheet.meaning l.sheet))) (take l.mapping-index l.mappings)
