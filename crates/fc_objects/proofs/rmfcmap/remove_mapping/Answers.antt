-- The mapping, and the flags of all others.
use Rattle.fc_base.specs.declared.request.Reply.TheVariants.{Done}
use Rattle.fc_desk.specs.Control.{books_of}
use Rattle.fc_desk.proofs.Removing.{mapping_gone}
use Rattle.fc_objects.proofs.rmfcmap.remove_mapping.Goals as goal

pub returns : goal.returns
returns g c =
    mapping_gone (g.S.Sheet.meaning c.args.sheet.now).restarts (books_of c.args.control.now (g.S.Sheet.meaning c.args.sheet.now)) c.args.mapping.now Done
    c.in_ok-draft.draft c.in_ok-draft-2.draft c.into_decision.result c.in_ok-draft.ensures c.in_ok-draft-2.ensures c.into_decision.ensures
