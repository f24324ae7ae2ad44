use Rattle.std.proofs.Common.{map, ap}
use Rattle.fc_alike.proofs.Lawful.{follow_law_holds}
use Rattle.fc_diff.specs.State.{ChangesState}
use Rattle.fc_grains.specs.Grains.{GrainsState}
use Rattle.fc_grains.specs.Volumes.{rooms_of}
use Rattle.fc_lane.proofs.Begin.{begins}
use Rattle.fc_lane.proofs.lane.Lane.new.Goals as goal

pub returns-clause-stands : goal.returns-clause-stands
returns-clause-stands g c = record {
  lane =
      begins _ c.args.grain (map g.D.Mdisk.meaning c.args.disks.items) c.in-Ok-new.ensures c.new-3.ensures.lane c.new-3.ensures.lanes c.new-3.ensures.sheet c.new-4.ensures c.new-5.ensures.flags;
  rows = ap (λ (z : ChangesState). z.rows) c.new-6.ensures;
  alike = follow_law_holds.none _;
  rooms = ap (λ (z : GrainsState). rooms_of z.volumes) c.in-Ok-new.ensures;
}
