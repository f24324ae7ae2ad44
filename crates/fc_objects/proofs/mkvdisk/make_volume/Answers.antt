-- The volume, and the flags as they stand.
use Rattle.std.proofs.Common.{arith}
use Rattle.fc_desk.specs.Control.{books_of}
use Rattle.fc_objects.proofs.Volumes.{made_volume}
use Rattle.fc_entry.specs.Volumes.{kind_of}
use Rattle.fc_base.specs.declared.fault.Kind.TheVariants.{Vdisk}
use Rattle.fc_base.specs.declared.request.Reply.TheVariants.{Made}
use Rattle.fc_objects.proofs.mkvdisk.make_volume.Goals as goal

pub returns : goal.returns
returns g c =
    made_volume (g.S.Sheet.meaning c.args.sheet.now).restarts (books_of c.args.control.now (g.S.Sheet.meaning c.args.sheet.now))
    (record { id = record { 0 = c.args.control.now.next_volume }; name = c.args.name; grains = c.args.grains; kind = kind_of c.args.thin })
    (Made Vdisk c.args.control.now.next_volume) c.in_ok-draft.draft c.in_ok-decision.decision c.requires
    (grind (arith, c.in_ok-draft.ensures, c.next_volume-id.ensures, c.kind_of.ensures)) (grind (arith, c.in_ok-decision.ensures, c.next_volume-id.ensures))
