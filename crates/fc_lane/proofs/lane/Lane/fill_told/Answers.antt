use Rattle.std.proofs.Common.{ap, ◌∙◌}
use Rattle.fc_steps.specs.Asking.{done_of, request_of, steps_entry}
use Rattle.fc_lane.specs.Lane.{LaneView}
use Rattle.fc_lane.proofs.FillEntry.{work_entered}
use Rattle.fc_lane.proofs.lane.Lane.fill_told.Goals as goal

pub fill-filled-requires-clause-can : goal.fill-filled-requires-clause-can
fill-filled-requires-clause-can g c =
    let x = c.filled_slot-slot.ensures c.requires.can.0 c.requires.can.1 c.requires.can.2 in
    (c.requires.can.0, x.0, c.requires.can.1, x.2)

pub returns : goal.returns
returns g c =
    work_entered c.args.self.now c.fill-filled.new.self c.filled_slot-slot.result c.args.map c.args.grain c.args.number c.args.actor c.fill-filled.result.moves c.fill-filled.result.end.calls c.fill-filled.result.end.stop
    c.fill-filled.ensures c.args.worker c.ended.result c.filled_slot-slot.ensures c.requires.can
    (c.ended.ensures
    ∙ (λ i. steps_entry (c.fill-filled.ensures.beside.lane i) c.args.number c.args.actor (request_of (c.ask_of-ask.ensures i)) (done_of (c.ask_of-ask.ensures i)) ((c.faults-before.ensures ∙ ap (λ (z : LaneView). z.grains.faults) c.self.view_is) i)
    c.fill-filled.new.self.grains.faults c.fill-filled.result.moves c.fill-filled.result.end.calls c.fill-filled.result.end.stop))
