use Rattle.std.proofs.Common.{map}
use Rattle.lane_tests.proofs.Fitting.{can_do, has_done}
use Rattle.lane_tests.proofs.ThinFits.{thin_fits}
use Rattle.lane_tests.specs.First.{told_begun}
use Rattle.lane_tests.specs.Thin.{thin}
use Rattle.lane_tests.proofs.room.lane_over.Goals as goal

pub done-requires-clause-fit : goal.done-requires-clause-fit
done-requires-clause-fit g c =
    let disks = map g.D.Mdisk.meaning c.args.disks.items in
    can_do c.new_lane-lane.result (told_begun disks) c.thin_volumes-events.result thin c.new_lane-lane.ensures.stands c.thin_volumes-events.ensures (thin_fits disks c.requires.thin)

pub returns-clause-stands : goal.returns-clause-stands
returns-clause-stands g c =
    let disks = map g.D.Mdisk.meaning c.args.disks.items in
    (disks, has_done c.new_lane-lane.result (told_begun disks) c.thin_volumes-events.result thin c.new_lane-lane.ensures.stands c.thin_volumes-events.ensures (thin_fits disks c.requires.thin) c.done.new.lane c.done.ensures.stands)
