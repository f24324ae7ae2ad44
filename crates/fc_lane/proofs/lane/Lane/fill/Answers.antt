use Rattle.std.proofs.Common.{◌/◌, List, refl, ap, sym, subst, ◌∙◌}
use Rattle.fc_base.specs.MovePlan.{PlannedMoves}
use Rattle.fc_base.specs.declared.request.Move.{Move}
use Rattle.fc_lane.specs.Entering.{HasFilled}
use Rattle.fc_lane.specs.Lane.{LaneView}
use Rattle.fc_steps.specs.Plans.{room_of}
use Rattle.fc_lane.proofs.FillLane.{CanFillHere, fill_can, fill_room, has_filled}
use Rattle.fc_lane.proofs.lane.Lane.fill.Goals as goal

pub room_for-made-requires-clause-room : goal.room_for-made-requires-clause-room
room_for-made-requires-clause-room g c =
    let w = subst (λ (z : LaneView). CanFillHere z c.args.slot.0 c.args.grain.0 (c.args.grain.0 / c.self.inside.lanes)) (sym c.self.view_is)
    (record { can = c.requires.can; ready = c.requires.ready; place_is = ap (λ (z : LaneView). c.args.grain.0 / z.lanes) c.self.view_is }) in
    (fill_room _ c.args.slot.0 c.args.grain.0 (c.args.grain.0 / c.self.inside.lanes) w c.as_slice-plan.result.now (c.as_slice-plan.ensures ∙ ap (λ (z : PlannedMoves). z.moves) c.plan.ensures)).entered

pub make_moves-end-requires-clause-can : goal.make_moves-end-requires-clause-can
make_moves-end-requires-clause-can g c =
    let w = subst (λ (z : LaneView). CanFillHere z c.args.slot.0 c.args.grain.0 (c.args.grain.0 / c.self.inside.lanes)) (sym c.self.view_is)
    (record { can = c.requires.can; ready = c.requires.ready; place_is = ap (λ (z : LaneView). c.args.grain.0 / z.lanes) c.self.view_is }) in
    fill_can _ c.args.slot.0 c.args.grain.0 (c.args.grain.0 / c.self.inside.lanes) w c.as_slice-plan.result.now (c.as_slice-plan.ensures ∙ ap (λ (z : PlannedMoves). z.moves) c.plan.ensures)

pub make_moves-end-requires-clause-few : goal.make_moves-end-requires-clause-few
make_moves-end-requires-clause-few g c =
    let w = subst (λ (z : LaneView). CanFillHere z c.args.slot.0 c.args.grain.0 (c.args.grain.0 / c.self.inside.lanes)) (sym c.self.view_is)
    (record { can = c.requires.can; ready = c.requires.ready; place_is = ap (λ (z : LaneView). c.args.grain.0 / z.lanes) c.self.view_is }) in
    (fill_room _ c.args.slot.0 c.args.grain.0 (c.args.grain.0 / c.self.inside.lanes) w c.as_slice-plan.result.now (c.as_slice-plan.ensures ∙ ap (λ (z : PlannedMoves). z.moves) c.plan.ensures)).few

pub returns : goal.returns
returns g c =
    let w = subst (λ (z : LaneView). CanFillHere z c.args.slot.0 c.args.grain.0 (c.args.grain.0 / c.self.inside.lanes)) (sym c.self.view_is)
    (record { can = c.requires.can; ready = c.requires.ready; place_is = ap (λ (z : LaneView). c.args.grain.0 / z.lanes) c.self.view_is }) in
    let old : LaneView = record { lane = c.self.inside.lane; lanes = c.self.inside.lanes; chains = c.self.inside.body.cascade; grains = c.self.inside.body.grains; accesses = c.self.inside.accesses; work = c.self.inside.work; changes = c.self.inside.changes; plan_room = c.self.inside.plan.room; entry_room = room_of c.self.inside.spare } in
    let new : LaneView = record { lane = c.self.inside.lane; lanes = c.self.inside.lanes; chains = c.make_moves-end.new.self.cascade; grains = c.make_moves-end.new.self.grains; accesses = c.self.inside.accesses; work = c.self.inside.work; changes = c.self.inside.changes; plan_room = c.plan.new.self.room; entry_room = room_of c.room_for-made.new.spare } in
    subst (λ (z : LaneView). HasFilled z c.args.slot.0 c.args.grain.0 c.into_moves.result c.make_moves-end.result.calls c.make_moves-end.result.stop new) c.self.view_is
    (subst (λ (m : List Move). HasFilled old c.args.slot.0 c.args.grain.0 m c.make_moves-end.result.calls c.make_moves-end.result.stop new) (sym c.into_moves.ensures)
    (has_filled old c.args.slot.0 c.args.grain.0 (c.args.grain.0 / c.self.inside.lanes) w c.as_slice-plan.result.now (c.as_slice-plan.ensures ∙ ap (λ (z : PlannedMoves). z.moves) c.plan.ensures) new
    c.make_moves-end.new.made.moves c.make_moves-end.result.calls c.make_moves-end.result.stop (record { lane = refl; lanes = refl; volumes = refl; flags = refl; changes = refl }) (ap (λ (z : PlannedMoves). z.room) c.plan.ensures)
    c.make_moves-end.ensures.ends))
