-- The lane at the place makes the step.
use Rattle.std.proofs.Common.{length, ap, arith}
use Rattle.fc_lane.specs.Doing.{IsUnderWay}
use Rattle.fc_lane.specs.Lane.{LaneView}
use Rattle.fc_stands.specs.Store.{StoreView}
use Rattle.fc_store.specs.Stepping.{IsStepOf}
use Rattle.fc_store.proofs.AtPlace.{at_place, in_lane, of_seen}
use Rattle.fc_store.proofs.store.Store.step.Goals as goal

pub index_mut-requires : goal.index_mut-requires
index_mut-requires g c = omega (arith, c.requires.there, ap (λ (s : StoreView). length s.lanes) c.self.view_is, c.self.inside.lanes.ok.0)

pub step-requires-clause-way : goal.step-requires-clause-way
step-requires-clause-way g c =
    of_seen (λ v. (lane : LaneView) × IsUnderWay lane c.args.doing.now v) c.self.view_is c.requires.there c.index_mut.ensures.value c.requires.way

pub returns-clause-step : goal.returns-clause-step
returns-clause-step g c =
    at_place (λ v w. IsStepOf c.args.doing.now v c.step.result c.step.new.doing w) c.step.new.self c.self.view_is c.requires.there c.index_mut.ensures.value
    (record { way = c.step.ensures.way; after = c.step.ensures.after; moved = c.step.ensures.moved; wrote = c.step.ensures.wrote })

pub returns-clause-others : goal.returns-clause-others
returns-clause-others g c = in_lane c.step.new.self c.self.view_is c.requires.there
