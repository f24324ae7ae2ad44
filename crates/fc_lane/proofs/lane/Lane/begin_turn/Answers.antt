use Rattle.std.proofs.Common.{◌<◌, None, [], ap, refl, sym, subst, ◌∙◌}
use Rattle.fc_base.specs.declared.request.Pick.TheVariants.{Any}
use Rattle.fc_base.specs.declared.request.Reply.TheVariants.{Idle}
use Rattle.fc_base.specs.declared.request.Request.{Request}
use Rattle.fc_lane.specs.Lane.{LaneView, of}
use Rattle.fc_lane.specs.Turns.{CanPick}
use Rattle.fc_lane.specs.Workers.{filled_slot, turn_of}
use Rattle.fc_lane.proofs.Followed.{untouched_followed}
use Rattle.fc_lane.proofs.Turns.{work_can, work_idle}
use Rattle.fc_lane.proofs.Workers.{turn_writes_none}
use Rattle.fc_lane.proofs.lane.Lane.begin_turn.Goals as goal
use Rattle.fc_steps.specs.Asking.{steps_entry}

pub begin_fill-requires-clause-can : goal.begin_fill-requires-clause-can
begin_fill-requires-clause-can g c =
    let f = c.requires.stands in
    let inside = subst (λ (z : LaneView). z.lane < z.lanes) c.self.view_is c.self.invariant in
    (f.0, f.1, (work_can c.args.worker c.args.self.now f.0.told c.in-Some.map c.in-Some.grain inside (sym (c.next_of.ensures f.0.told f.1.lane) ∙ c.in-Some.is)).0)

pub begin_fill-requires-clause-of_lane : goal.begin_fill-requires-clause-of_lane
begin_fill-requires-clause-of_lane g c =
    let f = c.requires.stands in
    let inside = subst (λ (z : LaneView). z.lane < z.lanes) c.self.view_is c.self.invariant in
    (work_can c.args.worker c.args.self.now f.0.told c.in-Some.map c.in-Some.grain inside (sym (c.next_of.ensures f.0.told f.1.lane) ∙ c.in-Some.is)).1

pub returns-in-Some : goal.returns-in-Some
returns-in-Some g c = record { map = c.in-Some.map; grain = c.in-Some.grain; next = λ told s. sym (c.next_of.ensures told s) ∙ c.in-Some.is; begun = c.begin_fill.ensures }

pub returns-in-None : goal.returns-in-None
returns-in-None g c =
    let v = c.args.self.now in
    let asked = c.turn_of-turn.ensures ∙ ap (λ (z : LaneView). turn_of c.args.worker z.lane) c.self.view_is in
    let is = c.untouched.ensures ∙ ap (λ (q : Request). steps_entry v.lane c.args.number c.args.actor q Idle v.grains.faults v.grains.faults [] 0 None) asked in (
      untouched_followed v (λ told. CanPick (of v) (filled_slot c.args.worker told.sheet.slots) Any) c.args.number c.args.actor (turn_of c.args.worker v.lane) Idle c.untouched.result
          (work_idle c.args.worker v c.args.number c.args.actor c.untouched.result (λ told s. sym (c.next_of.ensures told s) ∙ c.in-None.is) is) (turn_writes_none c.args.worker v.lane Idle) is,
      refl,
    )
