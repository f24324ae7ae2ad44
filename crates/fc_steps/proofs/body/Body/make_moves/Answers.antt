use Rattle.std.proofs.Common.{rules, arith, ◌+◌, List, ap, sym, subst, refl, ◌∙◌}
use Rattle.fc_base.specs.declared.request.Move.{Move}
use Rattle.fc_steps.proofs.StepsLoop.{Looping, loop_begins, loop_sound, loop_sized, loop_can, loop_next, loop_stops, loop_ends, ends_none, next_left, move_of}
use Rattle.fc_base.specs.MovePlan.{PlannedMoves}
use Rattle.fc_steps.proofs.body.Body.make_moves.Goals as goal

pub loop-mv-init : goal.loop-mv-init
loop-mv-init g c = (loop_begins c.args.plan.now c.args.place c.args.self.now.cascade c.args.self.now.grains c.args.made.now.moves c.requires.empty, refl)

pub make_move-end-requires-clause-sound : goal.make_move-end-requires-clause-sound
make_move-end-requires-clause-sound g c =
    let left = next_left c.args.plan.now c.loop-mv.mv-index c.loop-mv-test.true in
    loop_sound c.args.plan.now c.args.place c.args.self.now.cascade c.args.self.now.grains c.loop-mv.self.cascade c.loop-mv.self.grains c.loop-mv.calls c.loop-mv.made.moves c.loop-mv.mv-index (move_of c.args.plan.now c.loop-mv.mv-index) c.loop-mv.invariant.0 left c.requires.can.0 c.requires.can.1 c.requires.can.2 c.requires.can.3 (record { can = c.requires.can.4; plan_is = c.requires.can.5; place_is = c.requires.can.6 })

pub make_move-end-requires-clause-sized : goal.make_move-end-requires-clause-sized
make_move-end-requires-clause-sized g c =
    let left = next_left c.args.plan.now c.loop-mv.mv-index c.loop-mv-test.true in
    loop_sized c.args.plan.now c.args.place c.args.self.now.cascade c.args.self.now.grains c.loop-mv.self.cascade c.loop-mv.self.grains c.loop-mv.calls c.loop-mv.made.moves c.loop-mv.mv-index (move_of c.args.plan.now c.loop-mv.mv-index) c.loop-mv.invariant.0 left c.requires.can.0 c.requires.can.1 c.requires.can.2 c.requires.can.3 (record { can = c.requires.can.4; plan_is = c.requires.can.5; place_is = c.requires.can.6 })

pub make_move-end-requires-clause-can : goal.make_move-end-requires-clause-can
make_move-end-requires-clause-can g c =
    let left = next_left c.args.plan.now c.loop-mv.mv-index c.loop-mv-test.true in
    loop_can c.args.plan.now c.args.place c.args.self.now.cascade c.args.self.now.grains c.loop-mv.self.cascade c.loop-mv.self.grains c.loop-mv.calls c.loop-mv.made.moves c.loop-mv.mv-index (move_of c.args.plan.now c.loop-mv.mv-index) c.loop-mv.invariant.0 left c.requires.can.0 c.requires.can.1 c.requires.can.2 c.requires.can.3 (record { can = c.requires.can.4; plan_is = c.requires.can.5; place_is = c.requires.can.6 })

pub overflow_add-calls : goal.overflow_add-calls
overflow_add-calls g c =
    let few = c.loop-mv.invariant.0.few in
    let two = c.make_move-end.ensures.few in
    let below = c.loop-mv-test.true in
    let short = c.requires.few in
    omega arith

pub returns-then-is_some-clause-ends : goal.returns-then-is_some-clause-ends
returns-then-is_some-clause-ends g c l told number ks can plan_is place_is =
    let left = next_left c.args.plan.now c.loop-mv.mv-index c.loop-mv-test.true in
    loop_stops c.args.plan.now c.args.place c.args.self.now.cascade c.args.self.now.grains c.loop-mv.self.cascade c.loop-mv.self.grains c.loop-mv.calls c.loop-mv.made.moves c.loop-mv.mv-index (move_of c.args.plan.now c.loop-mv.mv-index) c.loop-mv.invariant.0 left l told number ks (record { can = can; plan_is = plan_is; place_is = place_is }) c.make_move-end.result.calls c.make_move-end.result.stop c.make_move-end.new.self.cascade c.make_move-end.new.self.grains
    (search rules) c.make_move-end.ensures.ends c.make_move-end.ensures.same

pub returns-then-is_some-clause-few : goal.returns-then-is_some-clause-few
returns-then-is_some-clause-few g c =
    let few = c.loop-mv.invariant.0.few in
    let two = c.make_move-end.ensures.few in
    let below = c.loop-mv-test.true in
    omega arith

pub push-requires : goal.push-requires
push-requires g c =
    let count = c.loop-mv.invariant.0.count in
    let room = c.loop-mv.invariant.1 in
    let below = c.loop-mv-test.true in
    let fits = c.requires.room in
    omega arith

pub loop-mv-preserved : goal.loop-mv-preserved
loop-mv-preserved g c =
    let left = next_left c.args.plan.now c.loop-mv.mv-index c.loop-mv-test.true in (
      subst (λ (z : List Move). Looping c.args.plan.now c.args.place c.args.self.now.cascade c.args.self.now.grains c.make_move-end.new.self.cascade c.make_move-end.new.self.grains (c.loop-mv.calls + c.make_move-end.result.calls) z (c.loop-mv.mv-index + 1))
          (sym (ap (λ (z : PlannedMoves). z.moves) c.push.ensures))
          (loop_next c.args.plan.now c.args.place c.args.self.now.cascade c.args.self.now.grains c.loop-mv.self.cascade c.loop-mv.self.grains c.loop-mv.calls c.loop-mv.made.moves c.loop-mv.mv-index (move_of c.args.plan.now c.loop-mv.mv-index) c.loop-mv.invariant.0 left c.make_move-end.result.calls c.make_move-end.new.self.cascade c.make_move-end.new.self.grains c.loop-mv-test.true c.make_move-end.ensures.few
          (ends_none c.loop-mv.self.cascade c.loop-mv.self.grains c.args.place (move_of c.args.plan.now c.loop-mv.mv-index) c.make_move-end.result.calls c.make_move-end.result.stop c.make_move-end.new.self.cascade c.make_move-end.new.self.grains (search rules) c.make_move-end.ensures.ends)
          c.make_move-end.ensures.same),
      ap (λ (z : PlannedMoves). z.room) c.push.ensures ∙ c.loop-mv.invariant.1,
    )

pub returns-clause-ends : goal.returns-clause-ends
returns-clause-ends g c l told number ks can plan_is place_is =
    loop_ends c.args.plan.now c.args.place c.args.self.now.cascade c.args.self.now.grains c.loop-mv.self.cascade c.loop-mv.self.grains c.loop-mv.calls c.loop-mv.made.moves c.loop-mv.mv-index c.loop-mv.invariant.0 (omega arith)
    l told number ks (record { can = can; plan_is = plan_is; place_is = place_is })

pub returns-clause-few : goal.returns-clause-few
returns-clause-few g c =
    let few = c.loop-mv.invariant.0.few in
    let within = c.loop-mv.invariant.0.within in
    omega arith
