use Rattle.fc_recovered.proofs.Walking.{found_slot, next_slot}
use Rattle.fc_recovered.proofs.chains.walk_chain.Goals as goal

pub returns-then-is_live_slot : goal.returns-then-is_live_slot
returns-then-is_live_slot c t rest tidy =
    found_slot t c.args.volume.0 c.args.grain c.args.label c.args.chain.now.label c.args.chain.now.slots c.as_slice-slot-items.result.now rest c.loop-slot.slot-index c.slot-item.result
    c.loop-slot.seen c.seen_with-seen.result _ c.is_live_slot.result c.as_slice-slot-items.ensures c.loop-slot-test.true c.slot-item.is tidy c.seen_with-seen.ensures c.is_live_slot.ensures c.if-is_live_slot.true
    (c.loop-slot.invariant t rest tidy)

pub loop-slot-preserved : goal.loop-slot-preserved
loop-slot-preserved c t rest tidy =
    next_slot t c.args.volume.0 c.args.grain c.args.label c.args.chain.now.label c.args.chain.now.slots c.as_slice-slot-items.result.now rest c.loop-slot.slot-index c.slot-item.result
    c.loop-slot.seen c.seen_with-seen.result _ c.is_live_slot.result c.as_slice-slot-items.ensures c.loop-slot-test.true c.slot-item.is tidy c.seen_with-seen.ensures c.is_live_slot.ensures c.if-is_live_slot.false
    (c.loop-slot.invariant t rest tidy)
