-- They are prepared, and the flags stay as they stand.
use Rattle.fc_base.specs.declared.request.Reply.TheVariants.{Done}
use Rattle.fc_desk.specs.Control.{books_of}
use Rattle.fc_starts.proofs.Preparing.{prepared}
use Rattle.fc_starts.proofs.prestartfcmap.prepare.Goals as goal

pub returns : goal.returns
returns g c =
    prepared (g.S.Sheet.meaning c.args.sheet.now).restarts (books_of c.args.control.now (g.S.Sheet.meaning c.args.sheet.now)) c.args.chosen c.args.restore Done
    c.in_ok-draft.draft c.in_ok-decision.decision c.requires.sound.tables.mappings c.requires.idle c.in_ok-draft.ensures c.in_ok-decision.ensures
