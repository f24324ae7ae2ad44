use Rattle.std.proofs.Common.{◌≡◌, ◌∙◌, ap, subst, ◌++◌}
use Rattle.std.specs.Result.{IfOk}
use Rattle.fc_base.specs.declared.request.Reply.TheVariants.{Listed}
use Rattle.fc_books.specs.Books.{Deed}
use Rattle.fc_books.specs.Reports.{report_rows}
use Rattle.fc_books.specs.Work.{work_events}
use Rattle.fc_objects.proofs.Reporting.{report_told, same_rows}
use Rattle.fc_desk.specs.Control.{books_of}
use Rattle.fc_report.specs.Asked.{asked}
use Rattle.fc_objects.proofs.reports.decide_report.Goals as goal

pub returns-in_ok-rows-in-None : goal.returns-in_ok-rows-in-None
returns-in_ok-rows-in-None g c =
    let view = g.S.Sheet.meaning c.args.sheet.now in
    let books = books_of c.args.control.now view in
    let rows = c.in_ok-rows-in-None.rows in
    rw (report_told view.restarts c.args.control.now.grain books c.args.command.now rows c.requires.report (c.in-None.ensures view)
    (c.in_ok-rows-in-None.ensures
    ∙ ap (λ grain. report_rows grain (asked c.registry.result.now.tables view) c.args.command.now) c.grain.ensures
    ∙ ap (λ tables. report_rows c.args.control.now.grain (asked tables view) c.args.command.now) c.registry.ensures
    ∙ same_rows c.args.control.now.grain books c.args.command.now))
    (subst
    (λ (d : Deed). IfOk c.conclude.result (λ decision. decision ≡ record { reply = Listed rows; effects = d.effects; events = d.events ++ work_events books; changes = d.changes }))
    c.new.ensures c.conclude.ensures)
