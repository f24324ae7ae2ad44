-- The rows of reports on one object.
use Rattle.std.proofs.Common.{◌≡◌, ◌∙◌, sym, ap, ℕ, List, [], ◌∷◌, ◌++◌, Option, Some, refl}
use Rattle.std.specs.List.{filter}
use Rattle.std.specs.Option.{unwrap_or}
use Rattle.fc_base.specs.SheetFacts.{HasSizes}
use Rattle.fc_base.specs.SheetView.{AreMappings, DependsOn}
use Rattle.fc_base.specs.Tables.{mapping_named, group_named}
use Rattle.fc_base.specs.declared.command.Command.TheVariants.{Lsfcmap, Lsfcconsistgrp, Lsfcmapdependentmaps}
use Rattle.fc_base.specs.declared.ids.MapId.{MapId}
use Rattle.fc_base.specs.declared.name.Ref.{Ref}
use Rattle.fc_base.specs.declared.size.GrainSize.{GrainSize}
use Rattle.fc_base.specs.declared.volume.Group.{Group}
use Rattle.fc_base.specs.declared.volume.Mapping.{Mapping}
use Rattle.fc_books.proofs.DependentMaps.{has_id_among, those_are}
use Rattle.fc_books.specs.Books.{Books}
use Rattle.fc_books.specs.Columns.{mapping_columns, dependent_columns, group_columns}
use Rattle.fc_books.specs.Copies.{dependents}
use Rattle.fc_books.specs.Layout.{ReportColumn, headings, fields, table, laid_out, view}
use Rattle.fc_books.specs.Reports.{listed, rows_of_one, report_rows}
use Rattle.fc_report.specs.Beside.{beside}

beside_view : {X : Type 0} (delim : Option ℕ) (columns : List (ReportColumn X)) (x : X) → beside (unwrap_or delim 32) (headings columns) (fields columns x) ≡ view delim columns x
beside_view delim [] x = refl
beside_view delim (c ∷ cs) x = ap (λ rows. (c.heading ++ unwrap_or delim 32 ∷ c.field x) ∷ rows) (beside_view delim cs x)

beside_by : {X : Type 0} (delim : Option ℕ) (columns : List (ReportColumn X)) (x : X) (hs fs : List (List ℕ)) → hs ≡ headings columns → fs ≡ fields columns x → view delim columns x ≡ beside (unwrap_or delim 32) hs fs
beside_by delim columns x hs fs hs_are fs_are =
    sym
    (ap (λ z. beside (unwrap_or delim 32) z fs) hs_are
    ∙ ap (λ z. beside (unwrap_or delim 32) (headings columns) z) fs_are
    ∙ beside_view delim columns x)

pub mapping_shown : (grain : GrainSize) (b : Books) (r : Ref) (delim : Option ℕ) (x : Mapping) (hs fs : List (List ℕ)) → Some x ≡ mapping_named b.tables r → hs ≡ headings (mapping_columns b) → fs ≡ fields (mapping_columns b) x →
    report_rows grain b (Lsfcmap (Some r) delim) ≡ beside (unwrap_or delim 32) hs fs
unfolding report_rows
mapping_shown grain b r delim x hs fs named hs_are fs_are = ap (rows_of_one (view delim (mapping_columns b))) (sym named) ∙ beside_by delim (mapping_columns b) x hs fs hs_are fs_are

pub group_shown : (grain : GrainSize) (b : Books) (r : Ref) (delim : Option ℕ) (x : Group) (hs fs : List (List ℕ)) → Some x ≡ group_named b.tables r → hs ≡ headings (group_columns b.tables) → fs ≡ fields (group_columns b.tables) x →
    report_rows grain b (Lsfcconsistgrp (Some r) delim) ≡ beside (unwrap_or delim 32) hs fs
unfolding report_rows
group_shown grain b r delim x hs fs named hs_are fs_are = ap (rows_of_one (view delim (group_columns b.tables))) (sym named) ∙ beside_by delim (group_columns b.tables) x hs fs hs_are fs_are

pub dependents_listed : (grain : GrainSize) (b : Books) (r : Ref) (delim : Option ℕ) (x : Mapping) (ids : List MapId) (rows : List (List (List ℕ))) → Some x ≡ mapping_named b.tables r → HasSizes b.sheet.slots → AreMappings (DependsOn b.sheet.slots x.id.0) ids →
    rows ≡ table dependent_columns (filter (has_id_among ids) b.tables.mappings) → report_rows grain b (Lsfcmapdependentmaps r delim) ≡ laid_out delim rows
unfolding report_rows
dependents_listed grain b r delim x ids rows named sizes are rows_are =
    ap (rows_of_one (λ (m : Mapping). listed delim dependent_columns (dependents b m))) (sym named)
    ∙ ap (listed delim dependent_columns) (sym (those_are b x ids sizes are))
    ∙ ap (laid_out delim) (sym rows_are)
