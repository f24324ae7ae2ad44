-- Refused, or made.
use Rattle.std.proofs.Common.{◌∙◌, ◌*◌, ◌/◌, ap, arith}
use Rattle.fc_base.specs.Grain.{grain_bytes}
use Rattle.fc_desk.specs.Control.{books_of}
use Rattle.fc_objects.proofs.Volumes.{volume_is_refused, volume_is_made}
use Rattle.fc_objects.proofs.mkvdisk.decide_mkvdisk.Goals as goal

pub returns-in_ok-decision-in-Some : goal.returns-in_ok-decision-in-Some
returns-in_ok-decision-in-Some g c =
    volume_is_refused (g.S.Sheet.meaning c.args.sheet.now).restarts c.args.control.now.grain (books_of c.args.control.now (g.S.Sheet.meaning c.args.sheet.now)) c.args.name.now
    c.in_ok-name.name c.args.size c.args.unit c.args.thin (c.args.size * c.unit_bytes.result) c.volume_refusal.result c.in-Some.refusal c.in_ok-decision-in-Some.decision
    (grind (arith, c.in_ok-name.ensures, c.next_volume.ensures)) (ap (λ n. c.args.size * n) c.unit_bytes.ensures.bytes) c.volume_refusal.ensures.refused c.in-Some.is c.in_ok-decision-in-Some.ensures

pub returns-in_ok-decision-in-None : goal.returns-in_ok-decision-in-None
returns-in_ok-decision-in-None g c =
    volume_is_made (g.S.Sheet.meaning c.args.sheet.now).restarts c.args.control.now.grain (books_of c.args.control.now (g.S.Sheet.meaning c.args.sheet.now)) c.args.name.now
    c.in_ok-name.name c.args.size c.args.unit c.args.thin (c.args.size * c.unit_bytes.result) c.grains_of-grains.result c.volume_refusal.result c.in_ok-decision-in-None.decision
    (grind (arith, c.in_ok-name.ensures, c.next_volume.ensures)) (ap (λ n. c.args.size * n) c.unit_bytes.ensures.bytes)
    (c.grains_of-grains.ensures.grains ∙ ap (λ x. c.args.size * c.unit_bytes.result / grain_bytes x) c.grain.ensures) c.volume_refusal.ensures.refused c.in-None.is
    c.in_ok-decision-in-None.ensures
