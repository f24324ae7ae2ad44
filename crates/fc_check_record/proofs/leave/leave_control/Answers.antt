use Rattle.std.proofs.Common.{fold, ap, ◌∙◌}
use Rattle.fc_books.specs.After.{after_table_change, flags_after}
use Rattle.fc_desk.specs.Control.{ControlState, books_of}
use Rattle.fc_check_record.proofs.leave.leave_control.Goals as goal

pub returns-clause-books : goal.returns-clause-books
returns-clause-books c =
    let d = c.args.decision.now in
    λ view. c.apply.ensures.books view ∙ ap (λ (s : ControlState). record (fold after_table_change (books_of s view) d.changes) { flags = fold flags_after s.flags d.events }) c.reserve.ensures.same
