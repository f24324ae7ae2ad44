-- Refused, or made.
use Rattle.std.proofs.Common.{arith}
use Rattle.fc_desk.specs.Control.{books_of}
use Rattle.fc_objects.proofs.Mapped.{pair_is_refused, pair_is_made}
use Rattle.fc_objects.proofs.mkfcmap.decide_pair.Goals as goal

pub returns-in_ok-decision-in-Some : goal.returns-in_ok-decision-in-Some
returns-in_ok-decision-in-Some g c =
    pair_is_refused (g.S.Sheet.meaning c.args.sheet.now).restarts c.args.control.now.grain (books_of c.args.control.now (g.S.Sheet.meaning c.args.sheet.now)) c.args.source.now c.args.target.now c.args.name.now
    c.in_ok-name.name c.args.group.now c.args.options c.pair_refusal.result c.in-Some.refusal c.in_ok-decision-in-Some.decision
    (grind (arith, c.in_ok-name.ensures, c.next_mapping.ensures)) c.pair_refusal.ensures.refused c.in-Some.is c.in_ok-decision-in-Some.ensures

pub returns-in_ok-decision-in-None : goal.returns-in_ok-decision-in-None
returns-in_ok-decision-in-None g c =
    pair_is_made (g.S.Sheet.meaning c.args.sheet.now).restarts c.args.control.now.grain (books_of c.args.control.now (g.S.Sheet.meaning c.args.sheet.now)) c.args.source.now c.args.target.now c.args.name.now
    c.in_ok-name.name c.args.group.now c.args.options c.pair_refusal.result c.in_ok-decision-in-None.decision
    (grind (arith, c.in_ok-name.ensures, c.next_mapping.ensures)) c.pair_refusal.ensures.refused c.in-None.is c.in_ok-decision-in-None.ensures
