-- They have started, and all flags are told.
use Rattle.fc_base.specs.declared.request.Reply.TheVariants.{Done}
use Rattle.fc_desk.specs.Control.{books_of}
use Rattle.fc_starts.proofs.Started.{started}
use Rattle.fc_starts.proofs.trigger.start.Goals as goal

pub returns : goal.returns
returns g c =
    started (g.S.Sheet.meaning c.args.sheet.now).restarts (books_of c.args.control.now (g.S.Sheet.meaning c.args.sheet.now)) c.args.chosen c.args.prep c.args.restore Done
    c.in_ok-draft.draft c.in_ok-whole.whole c.into_decision.result c.requires.sound c.requires.room c.requires.startable c.requires.apart
    c.in_ok-draft.ensures c.in_ok-whole.ensures c.into_decision.ensures
