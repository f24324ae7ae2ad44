-- Refused, or made.
use Rattle.std.proofs.Common.{arith}
use Rattle.fc_desk.specs.Control.{books_of}
use Rattle.fc_objects.proofs.Grouping.{group_refused, group_made}
use Rattle.fc_objects.proofs.mkfcconsistgrp.decide_mkfcconsistgrp.Goals as goal

pub returns-in_ok-decision-in-Some : goal.returns-in_ok-decision-in-Some
returns-in_ok-decision-in-Some g c =
    group_refused (g.S.Sheet.meaning c.args.sheet.now).restarts c.args.control.now.grain (books_of c.args.control.now (g.S.Sheet.meaning c.args.sheet.now)) c.args.name.now
    c.in_ok-name.name c.group_refusal.result c.in-Some.refusal c.in_ok-decision-in-Some.decision
    (grind (arith, c.in_ok-name.ensures, c.next_group.ensures)) (c.group_refusal.ensures (g.S.Sheet.meaning c.args.sheet.now)) c.in-Some.is c.in_ok-decision-in-Some.ensures

pub returns-in_ok-decision-in-None : goal.returns-in_ok-decision-in-None
returns-in_ok-decision-in-None g c =
    group_made (g.S.Sheet.meaning c.args.sheet.now).restarts c.args.control.now.grain (books_of c.args.control.now (g.S.Sheet.meaning c.args.sheet.now)) c.args.name.now
    c.in_ok-name.name c.group_refusal.result c.in_ok-decision-in-None.decision
    (grind (arith, c.in_ok-name.ensures, c.next_group.ensures)) (c.group_refusal.ensures (g.S.Sheet.meaning c.args.sheet.now)) c.in-None.is c.in_ok-decision-in-None.ensures
