-- Both volumes are there.
use Rattle.std.proofs.Common.{rules}
use Rattle.fc_desk.specs.Control.{books_of}
use Rattle.fc_objects.proofs.Mapped.{pair_is_decided}
use Rattle.fc_objects.proofs.mkfcmap.decide_mkfcmap.Goals as goal

pub returns-in_ok-decision-in-Some-volume : goal.returns-in_ok-decision-in-Some-volume
returns-in_ok-decision-in-Some-volume g c =
    pair_is_decided (g.S.Sheet.meaning c.args.sheet.now).restarts c.args.control.now.grain (books_of c.args.control.now (g.S.Sheet.meaning c.args.sheet.now)) c.args.source.now c.args.target.now
    c.in-Some.from.now c.in-Some-volume.to.now c.args.name.now c.args.group.now c.args.options c.in_ok-decision-in-Some-volume.decision
    (search rules) (search rules) c.in_ok-decision-in-Some-volume.ensures
