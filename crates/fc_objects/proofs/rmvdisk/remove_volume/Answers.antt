-- The volume, and the flags as they stand.
use Rattle.fc_base.specs.declared.request.Reply.TheVariants.{Done}
use Rattle.fc_desk.specs.Control.{books_of}
use Rattle.fc_objects.proofs.Vanishing.{volume_gone}
use Rattle.fc_objects.proofs.rmvdisk.remove_volume.Goals as goal

pub returns : goal.returns
returns g c =
    volume_gone (g.S.Sheet.meaning c.args.sheet.now).restarts (books_of c.args.control.now (g.S.Sheet.meaning c.args.sheet.now)) c.args.volume.now Done
    c.in_ok-draft.draft c.in_ok-decision.decision c.requires.sound c.requires.unnamed c.in_ok-draft.ensures c.in_ok-decision.ensures
