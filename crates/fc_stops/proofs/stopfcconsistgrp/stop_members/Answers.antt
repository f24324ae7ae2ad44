-- All members, and the flags of all mappings.
use Rattle.fc_base.specs.declared.request.Reply.TheVariants.{Done}
use Rattle.fc_desk.specs.Control.{books_of}
use Rattle.fc_stops.proofs.StopGroup.{group_decided}
use Rattle.fc_stops.proofs.stopfcconsistgrp.stop_members.Goals as goal

pub returns : goal.returns
returns g c =
    group_decided (g.S.Sheet.meaning c.args.sheet.now).restarts c.args.way c.args.group (books_of c.args.control.now (g.S.Sheet.meaning c.args.sheet.now))
    c.in_ok-draft.draft c.in_ok-draft-2.draft Done c.into_decision.result c.requires.sound c.requires.allowed
    c.in_ok-draft.ensures c.in_ok-draft-2.ensures c.into_decision.ensures
