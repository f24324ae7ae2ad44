-- Over the store that was made of the disks.
use Rattle.std.proofs.Common.{List, map, arith}
use Rattle.std.proofs.lemmas.List.{length-map}
use Rattle.fc_mdisk.specs.Disk.{DiskState}
use Rattle.fc_noted.proofs.Opening.{begins_over, leaves_untouched}
use Rattle.fc_noted.proofs.noted.Noted.open.Goals as goal

-- refused before the disk of metadata is called
pub returns-in-Err-clause-any_moment : goal.returns-in-Err-clause-any_moment
returns-in-Err-clause-any_moment g c =
    leaves_untouched g.M.MetaDisk.moment g.M.MetaDisk.left_since g.M.MetaDisk.seen g.M.MetaDisk.may_leave g.met.M.MetaDisk.only_now c.args.disk c.requires.zeros c.requires.synced

pub over-requires-clause-begins : goal.over-requires-clause-begins
over-requires-clause-begins g c =
    let disks : List DiskState = map g.D.Mdisk.meaning c.args.disks.items in (
      disks,
      begins_over c.args.grain c.len-count.result disks c.in-Ok.store (omega (arith, length-map c.args.disks.items g.D.Mdisk.meaning, c.args.disks.ok.0, c.len-count.ensures)) (omega (arith, c.requires.few, c.len-count.ensures)) c.requires.fresh
          c.in-Ok.ensures.stands c.in-Ok.ensures.grain c.in-Ok.ensures.begin,
    )

pub returns-in-Ok-over-clause-noted : goal.returns-in-Ok-over-clause-noted
returns-in-Ok-over-clause-noted g c =
    let disks : List DiskState = map g.D.Mdisk.meaning c.args.disks.items in
    c.in-Ok-over.ensures.noted disks
    (begins_over c.args.grain c.len-count.result disks c.in-Ok.store (omega (arith, length-map c.args.disks.items g.D.Mdisk.meaning, c.args.disks.ok.0, c.len-count.ensures)) (omega (arith, c.requires.few, c.len-count.ensures)) c.requires.fresh
    c.in-Ok.ensures.stands c.in-Ok.ensures.grain c.in-Ok.ensures.begin)

pub returns-clause-any_moment : goal.returns-clause-any_moment
returns-clause-any_moment g c = c.in-Err-over.ensures.any_moment
