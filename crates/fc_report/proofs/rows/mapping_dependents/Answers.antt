use Rattle.std.proofs.Common.{◌∙◌, ap}
use Rattle.std.specs.List.{filter}
use Rattle.fc_books.proofs.DependentMaps.{has_id_among}
use Rattle.fc_books.specs.Columns.{dependent_columns}
use Rattle.fc_books.specs.Layout.{table}
use Rattle.fc_report.proofs.Shown.{dependents_listed}
use Rattle.fc_report.specs.Asked.{asked}
use Rattle.fc_report.proofs.rows.mapping_dependents.Goals as goal

pub returns-in_ok-table-in-Some : goal.returns-in_ok-table-in-Some
returns-in_ok-table-in-Some g c =
    let books = asked c.args.registry.now.tables (g.S.Sheet.meaning c.args.sheet.now) in
    λ grain.
    rw (dependents_listed grain books c.args.map.now c.args.delim c.in-Some.mapping.now c.in_ok-ids-in-Some.ids c.as_slice-in-Some.result.now c.in-Some.ensures c.requires.sizes c.in_ok-ids-in-Some.ensures
    (c.as_slice-in-Some.ensures
    ∙ c.in_ok-table-in-Some.ensures
    ∙ ap (λ ids. table dependent_columns (filter (has_id_among ids) c.all_mappings.result.now)) c.as_slice.ensures
    ∙ ap (λ maps. table dependent_columns (filter (has_id_among c.in_ok-ids-in-Some.ids) maps)) c.all_mappings.ensures.value))
    c.laid_out.ensures
