use Rattle.fc_lanes.proofs.PhaseLanes.{IsMadeReady, none_below, one_more_lane, fits_next, readied, ready_so_far, all_ready, all_can}
use Rattle.fc_lanes.proofs.phases.reserve_lanes.Goals as goal

pub loop-place-init : goal.loop-place-init
loop-place-init g c = none_below (IsMadeReady c.args.events.now) c.args.lanes.now

pub reserve-requires-clause-fit : goal.reserve-requires-clause-fit
reserve-requires-clause-fit g c =
    fits_next (IsMadeReady c.args.events.now) c.loop-place.place c.args.lanes.now c.loop-place.lanes c.args.events.now c.index-lanes-place.result c.loop-place.invariant c.requires.fit c.loop-place-test.true

pub returns-in-Err-clause-ready : goal.returns-in-Err-clause-ready
returns-in-Err-clause-ready g c =
    ready_so_far c.args.events.now c.loop-place.place c.args.lanes.now c.loop-place.lanes c.reserve.new.self c.index-lanes-place.result c.loop-place.invariant c.loop-place-test.true
    (readied _ c.reserve.new.self _ c.in-Err.ensures.same c.in-Err.ensures.stands c.in-Err.ensures.quiet c.in-Err.ensures.faults c.in-Err.ensures.disks)

pub loop-place-preserved : goal.loop-place-preserved
loop-place-preserved g c =
    one_more_lane (IsMadeReady c.args.events.now) c.loop-place.place c.args.lanes.now c.loop-place.lanes c.reserve.new.self c.index-lanes-place.result c.loop-place.invariant c.loop-place-test.true
    (readied _ c.reserve.new.self _ c.in-Ok.ensures.same c.in-Ok.ensures.stands c.in-Ok.ensures.quiet c.in-Ok.ensures.faults c.in-Ok.ensures.disks, c.in-Ok.ensures.ok)

pub returns-clause-ok : goal.returns-clause-ok
returns-clause-ok g c = all_can c.args.events.now c.loop-place.place c.args.lanes.now c.loop-place.lanes c.loop-place.invariant c.loop-place-test.false

pub returns-clause-ready : goal.returns-clause-ready
returns-clause-ready g c = all_ready c.args.events.now c.loop-place.place c.args.lanes.now c.loop-place.lanes c.loop-place.invariant c.loop-place-test.false
