use Rattle.std.proofs.Common.{◌≡◌, ◌≤◌, ℕ, List, length, sym, ap, subst, ◌∙◌}
use Rattle.fc_base.specs.declared.request.Move.{Move}
use Rattle.fc_lane.specs.Doing.{IsUnderWay, entry_over}
use Rattle.fc_lane.specs.Lane.{LaneView}
use Rattle.fc_lane.proofs.InSteps.{finish_entered}
use Rattle.fc_lane.proofs.lane.Lane.end_steps.Goals as goal
use Rattle.fc_steps.specs.Asking.{done_of, request_of, steps_entry}
use Rattle.fc_steps.specs.Plans.{room_of}

pub into_made-moves-requires-clause-within : goal.into_made-moves-requires-clause-within
into_made-moves-requires-clause-within g c = c.requires.way.1.counted.within

pub into_made-moves-requires-clause-room : goal.into_made-moves-requires-clause-room
into_made-moves-requires-clause-room g c =
    let u = c.requires.way.1 in
    subst (λ (z : LaneView). length c.args.doing.steps.planned.moves ≤ z.plan_room) (sym c.self.view_is) (subst (λ (r : ℕ). length c.args.doing.steps.planned.moves ≤ r) (sym u.plan_room) u.room)

pub returns-clause-entered : goal.returns-clause-entered
returns-clause-entered g c lane u =
    let d = c.args.doing in
    let before : LaneView = record { lane = c.self.inside.lane; lanes = c.self.inside.lanes; chains = c.self.inside.body.cascade; grains = c.self.inside.body.grains; accesses = c.self.inside.accesses; work = c.self.inside.work; changes = c.self.inside.changes; plan_room = c.self.inside.plan.room; entry_room = room_of c.self.inside.spare } in
    let now : LaneView = record before { plan_room = c.into_made-moves.new.scratch.room } in
    let same : now ≡ c.args.self.now = ap (λ (r : ℕ). record before { plan_room = r }) c.into_made-moves.ensures.room ∙ c.self.view_is in
    finish_entered lane now d c.ended.result (subst (λ (z : LaneView). IsUnderWay lane d z) (sym same) u) c.requires.over
    (c.ended.ensures ∙ ap (λ (moves : List Move). steps_entry now.lane d.number d.actor (request_of d.steps.ask) (done_of d.steps.ask) d.before now.grains.faults moves d.steps.calls d.steps.stop) c.into_made-moves.ensures.made)

pub returns-clause-told : goal.returns-clause-told
returns-clause-told g c =
    let d = c.args.doing in
    let before : LaneView = record { lane = c.self.inside.lane; lanes = c.self.inside.lanes; chains = c.self.inside.body.cascade; grains = c.self.inside.body.grains; accesses = c.self.inside.accesses; work = c.self.inside.work; changes = c.self.inside.changes; plan_room = c.self.inside.plan.room; entry_room = room_of c.self.inside.spare } in
    (c.ended.ensures ∙ ap (λ (ms : List Move). steps_entry before.lane d.number d.actor (request_of d.steps.ask) (done_of d.steps.ask) d.before before.grains.faults ms d.steps.calls d.steps.stop) c.into_made-moves.ensures.made)
    ∙ ap (λ (z : LaneView). entry_over z d) c.self.view_is

pub returns-clause-grains : goal.returns-clause-grains
returns-clause-grains g c = ap (λ (z : LaneView). z.grains) c.self.view_is
