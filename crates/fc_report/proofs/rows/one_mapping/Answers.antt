use Rattle.std.proofs.Common.{◌∙◌, ap, sym, length}
use Rattle.fc_report.proofs.Shown.{mapping_shown}
use Rattle.fc_report.specs.Asked.{asked}
use Rattle.fc_report.proofs.rows.one_mapping.Goals as goal

pub beside-requires : goal.beside-requires
beside-requires g c =
    ap length (c.as_slice.ensures ∙ c.in_ok-headings-in-Some.ensures (asked c.args.registry.now.tables (g.S.Sheet.meaning c.args.sheet.now)))
    ∙ sym (ap length (c.as_slice-in-Some.ensures ∙ c.in_ok-fields-in-Some.ensures))

pub returns-in_ok-fields-in-Some : goal.returns-in_ok-fields-in-Some
returns-in_ok-fields-in-Some g c =
    let books = asked c.args.registry.now.tables (g.S.Sheet.meaning c.args.sheet.now) in
    λ grain.
    rw (mapping_shown grain books c.args.map.now c.args.delim c.in-Some.mapping.now _ _ c.in-Some.ensures
    (c.as_slice.ensures ∙ c.in_ok-headings-in-Some.ensures books)
    (c.as_slice-in-Some.ensures ∙ c.in_ok-fields-in-Some.ensures))
    c.beside.ensures
