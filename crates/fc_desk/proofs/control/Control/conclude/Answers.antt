-- The draft, and the flags of all mappings.
use Rattle.fc_desk.specs.Control.{books_of}
use Rattle.fc_desk.proofs.Working.{concluded}
use Rattle.fc_desk.proofs.control.Control.conclude.Goals as goal

pub returns : goal.returns
returns g c =
    concluded (books_of c.args.self.now (g.S.Sheet.meaning c.args.sheet.now)) c.args.draft c.in_ok-draft.draft c.args.reply c.into_decision.result
    c.in_ok-draft.ensures c.into_decision.ensures
