-- The group, and the flags as they stand.
use Rattle.std.proofs.Common.{rules}
use Rattle.fc_base.specs.declared.request.Reply.TheVariants.{Done}
use Rattle.fc_desk.specs.Control.{books_of}
use Rattle.fc_objects.proofs.Ungrouped.{group_gone}
use Rattle.fc_objects.proofs.rmfcconsistgrp.remove_group.Goals as goal

pub returns : goal.returns
returns g c =
    group_gone (g.S.Sheet.meaning c.args.sheet.now).restarts (books_of c.args.control.now (g.S.Sheet.meaning c.args.sheet.now)) c.args.group Done
    c.in_ok-draft.draft c.change.new.self c.in_ok-decision.decision (search rules) (search rules) (search rules) c.in_ok-decision.ensures
