use Rattle.std.proofs.Common.{List, refl, subst}
use Rattle.fc_base.specs.declared.request.Move.{Move}
use Rattle.fc_base.specs.declared.request.Planned.TheVariants.{Fill}
use Rattle.fc_chain.specs.Planning.{planned_moves}
use Rattle.fc_lane.specs.Lane.{LaneView}
use Rattle.fc_lane.proofs.InSteps.{Begins, fill_begins, fill_here}
use Rattle.fc_lane.proofs.FillLane.{fill_planned, fill_room, fill_some}
use Rattle.fc_lane.proofs.lane.Lane.begin_fill.Goals as goal
use Rattle.fc_steps.specs.declared.ask.Ask.{Ask}

pub begin_steps-requires-clause-fit : goal.begin_steps-requires-clause-fit
begin_steps-requires-clause-fit g c =
    fill_planned _ _ _ _ (fill_here c.args.self.now c.args.map c.args.grain c.filled_slot-slot.result c.requires.ready c.args.worker c.filled_slot-slot.ensures c.requires.can)

pub begin_steps-requires-clause-some : goal.begin_steps-requires-clause-some
begin_steps-requires-clause-some g c =
    fill_some _ _ _ _ (fill_here c.args.self.now c.args.map c.args.grain c.filled_slot-slot.result c.requires.ready c.args.worker c.filled_slot-slot.ensures c.requires.can) _ refl

pub begin_steps-requires-clause-room : goal.begin_steps-requires-clause-room
begin_steps-requires-clause-room g c =
    (fill_room _ _ _ _ (fill_here c.args.self.now c.args.map c.args.grain c.filled_slot-slot.result c.requires.ready c.args.worker c.filled_slot-slot.ensures c.requires.can) _ refl).entered

pub returns : goal.returns
returns g c =
    let v : LaneView = c.args.self.now in
    let slot = c.filled_slot-slot.result in
    let moves : List Move = planned_moves v.chains.sheet.slots v.chains.lanes (Fill slot c.args.grain) in
    fill_begins v c.args.map c.args.grain slot c.requires.ready c.args.worker c.filled_slot-slot.ensures c.requires.can c.begin_steps.new.self c.args.number c.args.actor c.begin_steps.result
    (subst (λ (a : Ask). Begins v a c.args.grain moves c.args.number c.args.actor c.begin_steps.result c.begin_steps.new.self) c.ask_of-ask.ensures (c.begin_steps.ensures.doing, c.begin_steps.ensures.same))
