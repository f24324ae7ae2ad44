use Rattle.std.proofs.Common.{rules, ◌≡◌, ◌+◌, ◌∷◌, List, drop, get_or, subst}
use Rattle.fc_base.specs.declared.decision.LaneEvent.{LaneEvent}
use Rattle.fc_desk.proofs.Applying.{Flagging, next_left, flagging_next}
use Rattle.fc_desk.proofs.control.Control.apply_events.Goals as goal

pub loop-event-preserved : goal.loop-event-preserved
loop-event-preserved c =
    let is : get_or c.args.events.now c.loop-event.event-index c.event-item.result ≡ c.event-item.result = search rules in
    let left : drop c.loop-event.event-index c.args.events.now ≡ c.event-item.result ∷ drop (c.loop-event.event-index + 1) c.args.events.now =
    next_left c.args.events.now c.loop-event.event-index c.event-item.result c.loop-event-test.true is in
    flagging_next c.args.self.now c.args.events.now c.loop-event.self c.apply_event.new.self c.event-item.result (drop (c.loop-event.event-index + 1) c.args.events.now)
    (subst (λ (z : List LaneEvent). Flagging c.args.self.now c.args.events.now c.loop-event.self z) left c.loop-event.invariant)
    c.apply_event.ensures.flags c.apply_event.ensures.room c.apply_event.ensures.same
