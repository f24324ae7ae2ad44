use Rattle.std.proofs.Common.{rules, ◌≡◌, ◌<◌, get_or, length}
use Rattle.fc_lane.proofs.Applying.{doing_can_at, doing_next_at, doing_none}
use Rattle.fc_lane.proofs.lane.Lane.apply.Goals as goal

pub apply_event-requires : goal.apply_event-requires
apply_event-requires g c =
    let here : get_or c.args.events.now c.loop-event.event-index c.event-item.result ≡ c.event-item.result = search rules in
    let below : c.loop-event.event-index < length c.args.events.now = search rules in
    doing_can_at c.args.self.now c.loop-event.self c.args.events.now c.loop-event.event-index c.event-item.result c.requires.fit below here c.loop-event.invariant

pub loop-event-preserved : goal.loop-event-preserved
loop-event-preserved g c =
    let here : get_or c.args.events.now c.loop-event.event-index c.event-item.result ≡ c.event-item.result = search rules in
    let below : c.loop-event.event-index < length c.args.events.now = search rules in
    doing_next_at c.args.self.now c.loop-event.self c.args.events.now c.loop-event.event-index c.event-item.result c.apply_event.new.self c.requires.fit below here c.loop-event.invariant c.apply_event.ensures

pub loop-event-init : goal.loop-event-init
loop-event-init g c = doing_none c.args.self.now c.args.events.now c.requires.ready c.requires.triggers
