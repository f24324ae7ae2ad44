use Rattle.std.proofs.Common.{false}
use Rattle.fc_base.specs.SheetStep.{started_empty}
use Rattle.fc_events.proofs.Rising.{next_fits_at, start_rises}
use Rattle.fc_events.proofs.events.trigger.Goals as goal

pub start-requires-clause-births : goal.start-requires-clause-births
start-requires-clause-births c =
    next_fits_at started_empty start_rises _ _ c.args.pairs.now c.loop-pair.pair-index (record { map = record { 0 = 0 }; source = record { 0 = 0 }; target = record { 0 = 0 }; incremental = false })
    c.loop-pair-test.true c.loop-pair.invariant.rest c.requires.births
