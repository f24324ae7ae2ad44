use Rattle.std.proofs.Common.{refl, ap, sym, subst, ◌∙◌}
use Rattle.fc_base.specs.MovePlan.{PlannedMoves}
use Rattle.fc_base.specs.declared.request.Reply.TheVariants.{Done}
use Rattle.fc_base.specs.declared.request.Request.TheVariants.{Write}
use Rattle.fc_lane.specs.Entering.{HasEntered}
use Rattle.fc_steps.specs.Asking.{steps_entry}
use Rattle.fc_lane.specs.Lane.{LaneView, of}
use Rattle.fc_steps.specs.Plans.{room_of}
use Rattle.fc_rules.specs.LaneFits.{FitsPart}
use Rattle.fc_lane.proofs.WriteLane.{IsWritable, plan_some, write_entered, write_planned, write_room}
use Rattle.fc_lane.proofs.lane.Lane.write_grain.Goals as goal

pub room_for-made-requires-clause-some : goal.room_for-made-requires-clause-some
room_for-made-requires-clause-some g c =
    let w = subst (λ (z : LaneView). IsWritable z c.args.part c.args.grain.0 c.args.place) (sym c.self.view_is)
    (record { can = c.requires.can; writable = c.requires.writable; ready = c.requires.ready; online = c.requires.online; number_is = c.requires.number; place_is = c.requires.place }) in
    plan_some _ c.args.part c.args.grain.0 c.args.place w c.plan.new.self.moves (ap (λ (z : PlannedMoves). z.moves) c.plan.ensures)

pub room_for-made-requires-clause-room : goal.room_for-made-requires-clause-room
room_for-made-requires-clause-room g c =
    let w = subst (λ (z : LaneView). IsWritable z c.args.part c.args.grain.0 c.args.place) (sym c.self.view_is)
    (record { can = c.requires.can; writable = c.requires.writable; ready = c.requires.ready; online = c.requires.online; number_is = c.requires.number; place_is = c.requires.place }) in
    (write_room _ c.args.part c.args.grain.0 c.args.place w c.as_slice-plan.result.now (c.as_slice-plan.ensures ∙ ap (λ (z : PlannedMoves). z.moves) c.plan.ensures)).entered

pub write_all-end-requires-clause-can : goal.write_all-end-requires-clause-can
write_all-end-requires-clause-can g c =
    let w = subst (λ (z : LaneView). IsWritable z c.args.part c.args.grain.0 c.args.place) (sym c.self.view_is)
    (record { can = c.requires.can; writable = c.requires.writable; ready = c.requires.ready; online = c.requires.online; number_is = c.requires.number; place_is = c.requires.place }) in
    write_planned _ c.args.part c.args.grain.0 c.args.place w c.as_slice-plan.result.now (c.as_slice-plan.ensures ∙ ap (λ (z : PlannedMoves). z.moves) c.plan.ensures)

pub write_all-end-requires-clause-few : goal.write_all-end-requires-clause-few
write_all-end-requires-clause-few g c =
    let w = subst (λ (z : LaneView). IsWritable z c.args.part c.args.grain.0 c.args.place) (sym c.self.view_is)
    (record { can = c.requires.can; writable = c.requires.writable; ready = c.requires.ready; online = c.requires.online; number_is = c.requires.number; place_is = c.requires.place }) in
    (write_room _ c.args.part c.args.grain.0 c.args.place w c.as_slice-plan.result.now (c.as_slice-plan.ensures ∙ ap (λ (z : PlannedMoves). z.moves) c.plan.ensures)).few

pub returns : goal.returns
returns g c =
    let w = subst (λ (z : LaneView). IsWritable z c.args.part c.args.grain.0 c.args.place) (sym c.self.view_is)
    (record { can = c.requires.can; writable = c.requires.writable; ready = c.requires.ready; online = c.requires.online; number_is = c.requires.number; place_is = c.requires.place }) in
    let old : LaneView = record { lane = c.self.inside.lane; lanes = c.self.inside.lanes; chains = c.self.inside.body.cascade; grains = c.self.inside.body.grains; accesses = c.self.inside.accesses; work = c.self.inside.work; changes = c.self.inside.changes; plan_room = c.self.inside.plan.room; entry_room = room_of c.self.inside.spare } in
    let new : LaneView = record { lane = c.self.inside.lane; lanes = c.self.inside.lanes; chains = c.write_all-end.new.self.cascade; grains = c.write_all-end.new.self.grains; accesses = c.self.inside.accesses; work = c.self.inside.work; changes = c.self.inside.changes; plan_room = c.plan.new.self.room; entry_room = room_of c.room_for-made.new.spare } in
    subst (λ (z : LaneView). HasEntered z (λ told. FitsPart (of z) told c.args.part.volume c.args.part.block c.args.part.count) c.args.number c.args.actor (Write c.args.part) c.ended.result new) c.self.view_is
    (write_entered old c.args.part c.args.grain.0 c.args.place w c.as_slice-plan.result.now (c.as_slice-plan.ensures ∙ ap (λ (z : PlannedMoves). z.moves) c.plan.ensures) new c.args.number c.args.actor
    c.write_all-end.new.made.moves c.write_all-end.result.calls c.write_all-end.result.stop c.ended.result
    (record { lane = refl; lanes = refl; volumes = refl; flags = refl; changes = refl }) (ap (λ (z : PlannedMoves). z.room) c.plan.ensures) c.write_all-end.ensures
    (c.ended.ensures
    ∙ (λ i. steps_entry c.self.inside.lane c.args.number c.args.actor (Write c.args.part) Done (c.faults-before.ensures i) c.write_all-end.new.self.grains.faults (c.into_moves.ensures i) c.write_all-end.result.calls c.write_all-end.result.stop)))
