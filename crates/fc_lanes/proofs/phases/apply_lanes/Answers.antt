use Rattle.fc_lanes.specs.AllLanes.{IsLaneAfter}
use Rattle.fc_lanes.proofs.PhaseLanes.{none_below, one_more_lane, all_below, can_next, fits_next}
use Rattle.fc_lanes.proofs.phases.apply_lanes.Goals as goal

pub loop-place-init : goal.loop-place-init
loop-place-init g c = none_below (IsLaneAfter c.args.events.now) c.args.lanes.now

pub apply-requires-clause-ready : goal.apply-requires-clause-ready
apply-requires-clause-ready g c =
    can_next (IsLaneAfter c.args.events.now) c.loop-place.place c.args.lanes.now c.loop-place.lanes c.args.events.now c.index-lanes-place.result c.loop-place.invariant c.requires.ready c.loop-place-test.true

pub apply-requires-clause-fit : goal.apply-requires-clause-fit
apply-requires-clause-fit g c =
    fits_next (IsLaneAfter c.args.events.now) c.loop-place.place c.args.lanes.now c.loop-place.lanes c.args.events.now c.index-lanes-place.result c.loop-place.invariant c.requires.fit c.loop-place-test.true

pub loop-place-preserved : goal.loop-place-preserved
loop-place-preserved g c =
    one_more_lane (IsLaneAfter c.args.events.now) c.loop-place.place c.args.lanes.now c.loop-place.lanes c.apply.new.self c.index-lanes-place.result c.loop-place.invariant c.loop-place-test.true
    (record { same = c.apply.ensures.same; stands = c.apply.ensures.stands; quiet = c.apply.ensures.quiet; armed = c.apply.ensures.armed })

pub returns : goal.returns
returns g c = all_below (IsLaneAfter c.args.events.now) c.loop-place.place c.args.lanes.now c.loop-place.lanes c.loop-place.invariant c.loop-place-test.false
