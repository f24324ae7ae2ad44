use Rattle.std.proofs.Common.{map}
use Rattle.lane_tests.proofs.FirstFits.{first_fits}
use Rattle.lane_tests.proofs.Fitting.{can_do, has_done}
use Rattle.lane_tests.specs.First.{first, told_begun}
use Rattle.lane_tests.proofs.tests.lane_over.Goals as goal

pub done-requires-clause-fit : goal.done-requires-clause-fit
done-requires-clause-fit g c =
    let disks = map g.D.Mdisk.meaning c.args.disks.items in
    can_do c.new_lane-lane.result (told_begun disks) c.first_volume-events.result first c.new_lane-lane.ensures.stands c.first_volume-events.ensures (first_fits disks c.requires.flat)

pub returns-clause-stands : goal.returns-clause-stands
returns-clause-stands g c =
    let disks = map g.D.Mdisk.meaning c.args.disks.items in
    has_done c.new_lane-lane.result (told_begun disks) c.first_volume-events.result first c.new_lane-lane.ensures.stands c.first_volume-events.ensures (first_fits disks c.requires.flat) c.done.new.lane c.done.ensures.stands
