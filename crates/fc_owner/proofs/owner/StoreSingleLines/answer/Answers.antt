-- A line is answered as it was read.
use Rattle.std.proofs.Common.{sym, ◌∙◌}
use Rattle.fc_owner.specs.Reading.{reading}
use Rattle.fc_owner.proofs.OwnerLemmas.{reading_fault, reading_line}
use Rattle.fc_owner.proofs.owner.StoreSingleLines.answer.Goals as goal

pub returns-in-Read-clause-answered : goal.returns-in-Read-clause-answered
returns-in-Read-clause-answered g c = λ bytes w is told.
    c.answer_line.ensures.answered reading bytes w (reading_line w.books bytes c.in-Read.line (sym c.in-Read.is ∙ is)) told

pub returns-in-Unread-clause-answered : goal.returns-in-Unread-clause-answered
returns-in-Unread-clause-answered g c = λ bytes w is told.
    c.push_unread.ensures.answered reading bytes w (reading_fault w.books bytes c.in-Unread.fault (sym c.in-Unread.is ∙ is)) told
