-- The disk that was made ready is fresh, and those before it still are; or it isn't, and then not all are.
use Rattle.fc_mdisk.proofs.Fresh.{fresh_more, fresh_there}
use Rattle.std.proofs.Common.{arith, rules}
use Rattle.fc_mdisk.proofs.ready.make_ready.Goals as goal

pub loop-place-preserved : goal.loop-place-preserved
loop-place-preserved g c =
    fresh_more g.D.Mdisk.meaning c.loop-place.disks c.loop-place.place c.make_disk_ready.new.disk (omega arith)
    (search (rules, c.if-not-make_disk_ready.ensures)) c.loop-place.invariant

pub returns-then-not-make_disk_ready : goal.returns-then-not-make_disk_ready
returns-then-not-make_disk_ready g c = record {
  ready = (
    λ no. cc,
    λ all.
        c.if-not-make_disk_ready.ensures.ready.1
        (fresh_there g.D.Mdisk.meaning c.loop-place.disks c.loop-place.place c.make_disk_ready.new.disk (omega arith) all),
  );
}
