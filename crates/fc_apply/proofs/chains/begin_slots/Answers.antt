use Rattle.fc_apply.proofs.Beginning.{next_begins_at, next_begun_at}
use Rattle.fc_apply.proofs.chains.begin_slots.Goals as goal

pub begin_slot-requires : goal.begin_slot-requires
begin_slot-requires c =
    next_begins_at c.args.cascade.now c.loop-pair.cascade c.args.pairs.now c.args.changes.now.rows c.loop-pair.pair-index _ c.requires.triggered c.loop-pair.invariant c.loop-pair-test.true

pub loop-pair-preserved : goal.loop-pair-preserved
loop-pair-preserved c =
    next_begun_at c.args.cascade.now c.loop-pair.cascade c.begin_slot.new.cascade c.args.pairs.now c.args.changes.now.rows c.loop-pair.pair-index _ c.loop-pair.invariant c.loop-pair-test.true c.begin_slot.ensures
