-- The rows of reports, each the bytes of a line.
use Rattle.std.specs.Prelude.{ℕ, List, [], ◌∷◌, Option, Some, None}
use Rattle.std.specs.Option.{option_map_or}
use Rattle.fc_base.specs.Tables.{mapping_named, group_named}
use Rattle.fc_base.specs.declared.command.Command.{Command}
use Rattle.fc_base.specs.declared.command.Command.TheVariants.{Lsfcmap, Lsfcconsistgrp, Lsvdisk, Lsfcmapprogress, Lsfcmapdependentmaps, Lsvdiskroom}
use Rattle.fc_base.specs.declared.size.GrainSize.{GrainSize}
use Rattle.fc_base.specs.declared.volume.Mapping.{Mapping}
use Rattle.fc_books.specs.Books.{Books}
use Rattle.fc_books.specs.Columns.{mapping_columns, progress_columns, dependent_columns, group_columns, volume_columns, room_columns}
use Rattle.fc_books.specs.Copies.{dependents}
use Rattle.fc_books.specs.Layout.{ReportColumn, table, laid_out, view}

-- All objects, by id, in a table.
abbrev pub listed : {X : Type 0} → Option ℕ → List (ReportColumn X) → List X → List (List ℕ)
listed delim columns xs = laid_out delim (table columns xs)

-- What a report says of the one object that its line names. It is there: else the line is refused.
abbrev pub rows_of_one : {X : Type 0} → (X → List (List ℕ)) → Option X → List (List ℕ)
rows_of_one rows o = option_map_or rows o []

-- A report lists all mappings, groups or volumes; or shows the one that it names, column by column; or lists a mapping's
-- progress; or the mappings that depend on a mapping's target, by id, of which one that is neither copying nor stopping
-- has none; or lists all volumes, each with the grains of it that occupy memory.
unfoldable pub report_rows : GrainSize → Books → Command → List (List ℕ)
report_rows grain b (Lsfcmap None delim) = listed delim (mapping_columns b) b.tables.mappings
report_rows grain b (Lsfcmap (Some m) delim) = rows_of_one (view delim (mapping_columns b)) (mapping_named b.tables m)
report_rows grain b (Lsfcconsistgrp None delim) = listed delim (group_columns b.tables) b.tables.groups
report_rows grain b (Lsfcconsistgrp (Some g) delim) = rows_of_one (view delim (group_columns b.tables)) (group_named b.tables g)
report_rows grain b (Lsvdisk delim) = listed delim (volume_columns grain b.tables) b.tables.volumes
report_rows grain b (Lsfcmapprogress m delim) =
    rows_of_one (λ (x : Mapping). listed delim (progress_columns b) (x ∷ [])) (mapping_named b.tables m)
report_rows grain b (Lsfcmapdependentmaps m delim) =
    rows_of_one (λ (x : Mapping). listed delim dependent_columns (dependents b x)) (mapping_named b.tables m)
report_rows grain b (Lsvdiskroom delim) = listed delim (room_columns b.rooms) b.tables.volumes
report_rows grain b command = []
