use Rattle.std.proofs.Common.{◌∙◌, ap, sym, length}
use Rattle.fc_report.proofs.Shown.{group_shown}
use Rattle.fc_report.specs.Asked.{asked}
use Rattle.fc_report.proofs.rows.one_group.Goals as goal

pub beside-requires : goal.beside-requires
beside-requires c =
    ap length (c.as_slice.ensures ∙ c.in_ok-headings-in-Some.ensures c.args.registry.now.tables)
    ∙ sym (ap length (c.as_slice-in-Some.ensures ∙ c.in_ok-fields-in-Some.ensures))

pub returns-in_ok-fields-in-Some : goal.returns-in_ok-fields-in-Some
returns-in_ok-fields-in-Some c = λ grain view.
    rw (group_shown grain (asked c.args.registry.now.tables view) c.args.group.now c.args.delim c.in-Some.group.now _ _ c.in-Some.ensures
    (c.as_slice.ensures ∙ c.in_ok-headings-in-Some.ensures c.args.registry.now.tables)
    (c.as_slice-in-Some.ensures ∙ c.in_ok-fields-in-Some.ensures))
    c.beside.ensures
