use Rattle.lane_tests.proofs.Fitting.{fits_now, leads_now, same_of}
use Rattle.lane_tests.proofs.lanes.done.Goals as goal

pub reserve-requires-clause-fit : goal.reserve-requires-clause-fit
reserve-requires-clause-fit g c = fits_now c.args.lane.now c.args.events.now c.requires.of c.requires.fit

pub apply-requires-clause-fit : goal.apply-requires-clause-fit
apply-requires-clause-fit g c =
    let f = c.requires.fit in
    fits_now c.reserve.new.self c.args.events.now (same_of c.args.lane.now c.reserve.new.self c.reserve.ensures.same c.requires.of) (f.0, c.reserve.ensures.stands f.0 f.1, f.2)

pub returns-clause-stands : goal.returns-clause-stands
returns-clause-stands g c f i fits =
    leads_now c.reserve.new.self c.apply.new.self c.args.events.now (same_of c.args.lane.now c.reserve.new.self c.reserve.ensures.same c.requires.of) c.apply.ensures.stands f (c.reserve.ensures.stands f i) fits
