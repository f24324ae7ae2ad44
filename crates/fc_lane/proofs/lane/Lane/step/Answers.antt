use Rattle.std.proofs.Common.{sym, subst}
use Rattle.fc_grains.specs.Volumes.{stored}
use Rattle.fc_lane.specs.Doing.{IsUnderWay}
use Rattle.fc_lane.specs.Lane.{LaneView, of}
use Rattle.fc_lane.proofs.InSteps.{step_made}
use Rattle.fc_lane.proofs.lane.Lane.step.Goals as goal
use Rattle.fc_steps.specs.UnderWay.{AreUnderWay, MoveStored, OwnStored, next_of}

pub step-requires-clause-way : goal.step-requires-clause-way
step-requires-clause-way g c =
    let lane = c.requires.way.0 in
    let u = c.requires.way.1 in
    let y = u.came u.can.0 u.can.1 u.can.2 in
    (of lane, u.can.0, y.slot, lane.chains, lane.grains, subst (λ (z : LaneView). AreUnderWay (of lane) u.can.0 y.slot lane.chains lane.grains c.args.doing.now.steps z.chains z.grains) (sym c.self.view_is) y.way)

pub step-requires-clause-counted : goal.step-requires-clause-counted
step-requires-clause-counted g c = c.requires.way.1.counted

pub returns-clause-way : goal.returns-clause-way
returns-clause-way g c lane u =
    step_made lane _ c.args.doing.now (next_of c.args.doing.now.steps) c.step.result c.step.new.steps c.step.new.self.cascade c.step.new.self.grains
    (subst (λ (z : LaneView). IsUnderWay lane c.args.doing.now z) (sym c.self.view_is) u) c.step.ensures.after c.step.ensures.counted c.step.ensures.way

pub returns-clause-moved : goal.returns-clause-moved
returns-clause-moved g c m e =
    subst (λ (z : LaneView). MoveStored z.chains.sheet.slots c.args.doing.now.steps.place m c.step.result (stored z.grains.volumes) (stored c.step.new.self.grains.volumes)) c.self.view_is (c.step.ensures.moved m e)

pub returns-clause-wrote : goal.returns-clause-wrote
returns-clause-wrote g c part e lane u told s fits =
    let y = u.came told s fits in
    subst (λ (z : LaneView). OwnStored (of lane) told part c.step.result.stop (stored z.grains.volumes) (stored c.step.new.self.grains.volumes)) c.self.view_is
    (c.step.ensures.wrote part e (of lane) told y.slot lane.chains lane.grains
    (subst (λ (z : LaneView). AreUnderWay (of lane) told y.slot lane.chains lane.grains c.args.doing.now.steps z.chains z.grains) (sym c.self.view_is) y.way))
