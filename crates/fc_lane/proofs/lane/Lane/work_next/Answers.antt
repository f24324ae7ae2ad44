use Rattle.std.proofs.Common.{◌<◌, None, [], ap, sym, subst, ◌∙◌}
use Rattle.fc_base.specs.declared.request.Reply.TheVariants.{Idle}
use Rattle.fc_base.specs.declared.request.Request.{Request}
use Rattle.fc_steps.specs.Asking.{steps_entry}
use Rattle.fc_lane.specs.Lane.{LaneView}
use Rattle.fc_lane.specs.Workers.{turn_of}
use Rattle.fc_lane.proofs.Turns.{turned, work_can, work_idle, work_turned}
use Rattle.fc_lane.proofs.lane.Lane.work_next.Goals as goal

pub fill_told-requires-clause-can : goal.fill_told-requires-clause-can
fill_told-requires-clause-can g c =
    let told = c.requires.stands.0 in
    let inside = subst (λ (z : LaneView). z.lane < z.lanes) c.self.view_is c.self.invariant in
    (told, c.requires.stands.1, (work_can c.args.worker c.args.self.now told c.in-Some.map c.in-Some.grain inside (sym (c.next_of.ensures told c.requires.stands.1) ∙ c.in-Some.is)).0)

pub fill_told-requires-clause-of_lane : goal.fill_told-requires-clause-of_lane
fill_told-requires-clause-of_lane g c =
    let inside = subst (λ (z : LaneView). z.lane < z.lanes) c.self.view_is c.self.invariant in
    (work_can c.args.worker c.args.self.now c.requires.stands.0 c.in-Some.map c.in-Some.grain inside (sym (c.next_of.ensures c.requires.stands.0 c.requires.stands.1) ∙ c.in-Some.is)).1

pub returns-in-Some : goal.returns-in-Some
returns-in-Some g c =
    let inside = subst (λ (z : LaneView). z.lane < z.lanes) c.self.view_is c.self.invariant in
    let asked = c.turn_of-request.ensures ∙ ap (λ (z : LaneView). turn_of c.args.worker z.lane) c.self.view_is in
    work_turned c.args.worker c.args.self.now c.fill_told.new.self c.args.number c.args.actor c.in-Some.map c.in-Some.grain c.fill_told.result c.turned.result inside
    (λ told s. sym (c.next_of.ensures told s) ∙ c.in-Some.is) c.fill_told.ensures (c.turned.ensures ∙ ap (λ (q : Request). turned q c.fill_told.result) asked)

pub returns-in-None : goal.returns-in-None
returns-in-None g c =
    let v = c.args.self.now in
    let asked = c.turn_of-request.ensures ∙ ap (λ (z : LaneView). turn_of c.args.worker z.lane) c.self.view_is in
    work_idle c.args.worker v c.args.number c.args.actor c.untouched.result (λ told s. sym (c.next_of.ensures told s) ∙ c.in-None.is)
    (c.untouched.ensures ∙ ap (λ (q : Request). steps_entry v.lane c.args.number c.args.actor q Idle v.grains.faults v.grains.faults [] 0 None) asked)
